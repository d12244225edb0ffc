-- One more symbol beside those that were met.
use Rattle.std.proofs.Common.{◌≡◌, ◌∙◌, ℕ, Bool, true, false, cond, List, Option, None, Some, Result, Ok, Err, OnOk, OnErr, IfSome, option_copied, Bor, sym, ap, refl}
use Rattle.std.specs.Str.{bytes_eq}
use Rattle.std.proofs.lemmas.Slice.Eq.{bytes_eq-Decides}
use Rattle.geda_model.specs.Sheets.{SymbolData}
use Rattle.project_model.specs.Projects.{ProjectData}
use Rattle.attr_rules.specs.Libraries.{symbol_named}
use Rattle.hierarchy.specs.steps.MetSymbols.{AreMet, MeetsSymbol}

same_symbol : (a b : Option SymbolData) → Some a ≡ Some b → a ≡ b
same_symbol a b e = cc

met_after : (p : ProjectData) (name : List ℕ) (symbol : Option SymbolData) (old new : List ℕ → Option (Option SymbolData)) → symbol ≡ symbol_named p name → MeetsSymbol name symbol old new → AreMet p old → AreMet p new
met_after p name symbol old new is puts are = λ q t e. go q t (bytes_eq name q) refl (sym (puts q) ∙ e)
  where
    go : (q : List ℕ) (t : Option SymbolData) (b : Bool) → bytes_eq name q ≡ b → cond b (Some symbol) (old q) ≡ Some t → t ≡ symbol_named p q
    go q t false d e = are q t e
    go q t true d e = sym (same_symbol symbol t e) ∙ is ∙ ap (symbol_named p) ((bytes_eq-Decides name q).0 d)

met_kept : (p : ProjectData) (old new : List ℕ → Option (Option SymbolData)) → ((q : List ℕ) → new q ≡ old q) → AreMet p old → AreMet p new
met_kept p old new same are = λ q t e. are q t (sym (same q) ∙ e)

-- whether it was put in or not
pub met_still : {X Y : Type 0} (r : Result X Y) (p : ProjectData) (name : List ℕ) (symbol : Option SymbolData) (old new : List ℕ → Option (Option SymbolData)) → symbol ≡ symbol_named p name
    → OnOk r (MeetsSymbol name symbol old new) → OnErr r ((q : List ℕ) → new q ≡ old q) → AreMet p old → AreMet p new
met_still (Ok x) p name symbol old new is puts same are = met_after p name symbol old new is puts are
met_still (Err y) p name symbol old new is puts same are = met_kept p old new same are

-- a symbol that was looked up
pub met_found : (p : ProjectData) (name : List ℕ) (rows : List ℕ → Option (Option SymbolData)) (found : Option (Bor (Option SymbolData))) → option_copied found ≡ rows name → AreMet p rows → IfSome found (λ met. met.now ≡ symbol_named p name)
met_found p name rows None e are = tt
met_found p name rows (Some met) e are = are name met.now (sym e)
