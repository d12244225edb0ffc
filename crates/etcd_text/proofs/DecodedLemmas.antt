-- Texts in base64, as they decode.
use Rattle.std.proofs.Common.{◌≡◌, List, ℕ, Some, None, Ok, ap, subst}
use Rattle.std.specs.Result.{result_ok}
use Rattle.base64.specs.GeneralPurpose.{IsDecodeFailure, decode_of, decoded_of}
use Rattle.base64.specs.declared.decode.DecodeAllocError.{DecodeAllocError}
use Rattle.base64.specs.declared.decode.DecodeAllocError.TheVariants.{DecodeError as Failed}
use Rattle.base64.specs.declared.decode.DecodeError.{DecodeError}
use Rattle.base64.specs.declared.engine.general_purpose.GeneralPurpose.{GeneralPurpose}

pub decodes : (e : GeneralPurpose) (s bytes : List ℕ) → decode_of e s ≡ Ok bytes → decoded_of e s ≡ Some bytes
unfolding decoded_of
decodes e s bytes is = ap result_ok is

pub not_decoded : (e : GeneralPurpose) (s : List ℕ) (fault : DecodeAllocError) (d : DecodeError) → fault ≡ Failed d → IsDecodeFailure e s fault → decoded_of e s ≡ None
unfolding decoded_of
not_decoded e s fault d is failed = ap result_ok (subst (IsDecodeFailure e s) is failed)
