pub mod VouchedLemmas
