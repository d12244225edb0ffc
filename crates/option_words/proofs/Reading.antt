-- The walk of clap over the words gives what the definition reads.
use Rattle.std.proofs.Common.{◌≡◌, ◌∙◌, ap, ap₂, refl, sym, subst, ℕ, Bool, true, false, ◌==◌, ◌&&◌, ◌||◌, List, [], ◌∷◌, ◌++◌, Option, Some, None, codes, fold, option_map, append_assoc, append-nil, if◌then◌else◌}
use Rattle.std.specs.Option.{option_map_or}
use Rattle.std.specs.Prelude.{⊤, option_and_then}
use Rattle.std.proofs.Common.{true≢false}
use Rattle.std.specs.Str.{bytes_eq}
use Rattle.clap.specs.Words.{Row, Rule, Text, Kinds, fault_of, is_simple, is_simple_and_free}
use Rattle.clap.specs.Simple.{Shape, built, filled, matches_of, with_index}
use Rattle.clap.specs.Walk.{Held, Walk, Waiting, Step, idle, option, positional, walked, nothing_held, settled, value as step_value, trailing as step_trailing, finished, pushed, after_flag, arg_by_long, after_step, long_met, used, long_or_other, short_or_plain, with_default}
use Rattle.clap.specs.Lexer.{long_of, long_of_rest, short_of, short_of_rest, strip_byte}
use Rattle.clap.specs.Kinds.{or_else}
use Rattle.clap.specs.Faults.{walk_fault, turn_fault, settle_fault, defaults_fault, check_fault, step_fault, flag_word_fault, bundle_fault, long_fault, use_fault}
use Rattle.clap.specs.declared.parser.matches.ValueSource.TheVariants.{CommandLine}
use Rattle.clap.specs.declared.builder.value_parser.Reading.TheVariants.{AsWritten}
use Rattle.clap.proofs.FaultLemmas.{leaf_fault}
use Rattle.option_words.specs.Words as own
use Rattle.option_words.specs.Words.{Parts, Look, plain, single, end, long, look, after_one, after_two, is_option, read, parts_of}
use Rattle.option_words.specs.steps.LoneHyphens.{has_single, is_single_look}
use Rattle.clap.specs.Words.{IsAmong}
use Rattle.clap.specs.declared.error.kind.ErrorKind.{ErrorKind}
use Rattle.clap.specs.declared.error.kind.ErrorKind.TheVariants as kind
use Rattle.option_words.specs.steps.Apps.{app, fault_by, parts_in, value_rule}
use Rattle.option_words.specs.declared.fault.WordFault.TheVariants.{NoMemory, Usage}
use Rattle.std.proofs.Common.{inl, inr, ◌⊎◌}

some_item : {X : Type 0} (x : X) (xs : List X) → x ∷ xs ≡ [] → ⊥
some_item x xs e = cc

first_none : (a b : Kinds) → or_else a b ≡ [] → a ≡ []
first_none [] b e = refl
first_none (k ∷ ks) b e = absurd (some_item k ks e)

in_turn : (a b c : Kinds) → or_else (or_else a b) c ≡ or_else a (or_else b c)
in_turn [] b c = refl
in_turn (k ∷ ks) b c = refl

-- what was used so far, in order of first uses

data Seen : Type 0 where
  none : Seen
  value_only : Text → Seen
  words_only : List Text → Seen
  value_first : Text → List Text → Seen
  words_first : List Text → Text → Seen

abbrev value_row : Text → Row
value_row v = record { id = codes "value"; values = v ∷ []; count = None; source = Some CommandLine; reading = AsWritten }

abbrev words_row : List Text → Row
words_row ws = record { id = codes "words"; values = ws; count = None; source = Some CommandLine; reading = AsWritten }

abbrev rows : Seen → List Row
rows none = []
rows (value_only v) = value_row v ∷ []
rows (words_only ws) = words_row ws ∷ []
rows (value_first v ws) = value_row v ∷ words_row ws ∷ []
rows (words_first ws v) = words_row ws ∷ value_row v ∷ []

abbrev parts : Seen → Parts
parts none = record { value = None; words = [] }
parts (value_only v) = record { value = Some v; words = [] }
parts (words_only ws) = record { value = None; words = ws }
parts (value_first v ws) = record { value = Some v; words = ws }
parts (words_first ws v) = record { value = Some v; words = ws }

abbrev worded : Seen → Text → Seen
worded none w = words_only (w ∷ [])
worded (value_only v) w = value_first v (w ∷ [])
worded (words_only ws) w = words_only (ws ++ w ∷ [])
worded (value_first v ws) w = value_first v (ws ++ w ∷ [])
worded (words_first ws v) w = words_first (ws ++ w ∷ []) v

abbrev valued : Seen → Text → Option Seen
valued none v = Some (value_only v)
valued (words_only ws) v = Some (words_first ws v)
valued (value_only x) v = None
valued (value_first x ws) v = None
valued (words_first ws x) v = None

parts-worded : (s : Seen) (w : Text) → parts (worded s w) ≡ own.with_word w (parts s)
parts-worded none w = refl
parts-worded (value_only v) w = refl
parts-worded (words_only ws) w = refl
parts-worded (value_first v ws) w = refl
parts-worded (words_first ws v) w = refl

parts-valued : (s : Seen) (v : Text) → option_map parts (valued s v) ≡ own.with_value v (parts s)
parts-valued none v = refl
parts-valued (value_only x) v = refl
parts-valued (words_only ws) v = refl
parts-valued (value_first x ws) v = refl
parts-valued (words_first ws x) v = refl

-- what is pending

data Debt : Type 0 where
  nothing : Debt
  awaits : Debt
  value : Text → Debt
  word : Text → Debt

abbrev pending : Debt → Option (Text × List Text)
pending nothing = None
pending awaits = Some (codes "value", [])
pending (value v) = Some (codes "value", v ∷ [])
pending (word w) = Some (codes "words", w ∷ [])

abbrev waiting : Debt → Waiting
waiting nothing = idle
waiting awaits = option (codes "value")
waiting (value v) = idle
waiting (word w) = positional

abbrev paid : Seen → Debt → Option Seen
paid s nothing = Some s
paid s awaits = None
paid s (value v) = valued s v
paid s (word w) = Some (worded s w)

-- an option is pending only where there is one
abbrev Has : Option Text → Type 0
Has None = ⊥
Has (Some name) = ⊤

abbrev Fits : Debt → Option Text → Type 0
Fits nothing o = ⊤
Fits awaits o = Has o
Fits (value v) o = Has o
Fits (word w) o = ⊤

abbrev held : Seen → Debt → Held
held s d = record { rows = rows s; pending = pending d; skip = 0 }

abbrev at : Seen → Debt → Bool → Waiting → Walk
at s d is_trailing waits = record { held = held s d; waiting = waits; position = 1; is_trailing = is_trailing; stopped = None }

abbrev walk_with : Bool → Held → Walk
walk_with is_trailing h = record { held = h; waiting = positional; position = 1; is_trailing = is_trailing; stopped = None }

abbrev waits_with : Held → Walk
waits_with h = record { held = h; waiting = option (codes "value"); position = 1; is_trailing = false; stopped = None }

abbrev idle_with : Held → Walk
idle_with h = record { held = h; waiting = idle; position = 1; is_trailing = false; stopped = None }

abbrev shape : Option Text → Shape
shape o = (built (app o)).top

abbrev rules_for : Option Text → List Rule
rules_for o = (shape o).rules

-- the option, as it is built
abbrev built_value : Text → Rule
built_value name = with_index 2 (filled (value_rule name))

abbrev Settles : Option Text → Seen → Debt → Option Seen → Type 0
Settles o s d None = settle_fault (rules_for o) false (held s d) ≡ [] → ⊥
Settles o s d (Some q) = (settle_fault (rules_for o) false (held s d) ≡ []) × (settled (rules_for o) (held s d) ≡ held q nothing)

settles : (o : Option Text) (s : Seen) (d : Debt) → Fits d o → Settles o s d (paid s d)
settles o s nothing fits = (refl, refl)
settles o none (word w) fits = (refl, refl)
settles o (value_only v) (word w) fits = (refl, refl)
settles o (words_only ws) (word w) fits = (refl, refl)
settles o (value_first v ws) (word w) fits = (refl, refl)
settles o (words_first ws v) (word w) fits = (refl, refl)
settles None s awaits fits = absurd fits
settles None s (value x) fits = absurd fits
settles (Some n) s awaits fits = some_item _ _
settles (Some n) none (value x) fits = (refl, refl)
settles (Some n) (value_only v) (value x) fits = some_item _ _
settles (Some n) (words_only ws) (value x) fits = (refl, refl)
settles (Some n) (value_first v ws) (value x) fits = some_item _ _
settles (Some n) (words_first ws v) (value x) fits = some_item _ _

-- what a word looks like

-- clap takes the word for no flag
record IsPlain (x : Text) : Type 0 where
  no_end : bytes_eq x (45 ∷ 45 ∷ []) ≡ false
  no_long : long_of x ≡ None
  no_short : short_of x ≡ None

abbrev IsLook : Text → Look → Type 0
IsLook x plain = IsPlain x
IsLook x single = ⊤
IsLook x end = bytes_eq x (45 ∷ 45 ∷ []) ≡ true
IsLook x (long name v) = (bytes_eq x (45 ∷ 45 ∷ []) ≡ false) × (long_of x ≡ Some (name, v))

look_three : (b c : ℕ) (more : Text) → (b == 45) ≡ true → (c == 45) ≡ true → IsLook (b ∷ c ∷ more) (after_two more)
look_three b c [] e f = ap₂ (λ (s t : Bool). s && (t && true)) e f
look_three b c (m ∷ ms) e f = (
  ap₂ (λ (s t : Bool). s && (t && false)) e f,
  ap (λ (t : Bool). option_and_then long_of_rest (option_and_then (strip_byte 45) (if t then Some (c ∷ m ∷ ms) else None))) e
      ∙ ap (λ (t : Bool). option_and_then long_of_rest (if t then Some (m ∷ ms) else None)) f,
)

look_two : (b : ℕ) (rest : Text) → (b == 45) ≡ true → IsLook (b ∷ rest) (after_one rest)
look_two b [] e = tt
look_two b (c ∷ more) e = go (c == 45) refl
  where
    go : (t : Bool) → (c == 45) ≡ t → IsLook (b ∷ c ∷ more) (if t then after_two more else single)
    go true f = look_three b c more e f
    go false f = tt

look_is : (x : Text) → IsLook x (look x)
look_is [] = record { no_end = refl; no_long = refl; no_short = refl }
look_is (b ∷ rest) = go (b == 45) refl
  where
    go : (t : Bool) → (b == 45) ≡ t → IsLook (b ∷ rest) (if t then after_one rest else plain)
    go true e = look_two b rest e
    go false e = record {
      no_end = ap (λ (t : Bool). t && bytes_eq rest (45 ∷ [])) e;
      no_long = ap (λ (t : Bool). option_and_then long_of_rest (option_and_then (strip_byte 45) (if t then Some rest else None))) e;
      no_short = ap (λ (t : Bool). option_and_then short_of_rest (if t then Some rest else None)) e;
    }

-- the end of the words

abbrev after_settle : Option Text → Held → Kinds
after_settle o h = or_else (defaults_fault h.rows (rules_for o)) (check_fault (shape o) (fold with_default h.rows (rules_for o)) false)

settled_well : (o : Option Text) (q : Seen) → (after_settle o (held q nothing) ≡ []) × (parts_in (fold with_default (rows q) (rules_for o)) ≡ parts q)
unfolding defaults_fault
settled_well None none = (refl, refl)
settled_well None (value_only v) = (refl, refl)
settled_well None (words_only ws) = (refl, refl)
settled_well None (value_first v ws) = (refl, refl)
settled_well None (words_first ws v) = (refl, refl)
settled_well (Some n) none = (refl, refl)
settled_well (Some n) (value_only v) = (refl, refl)
settled_well (Some n) (words_only ws) = (refl, refl)
settled_well (Some n) (value_first v ws) = (refl, refl)
settled_well (Some n) (words_first ws v) = (refl, refl)

module _ (o : Option Text) where
  abbrev last : Walk → List Text → Held
  last w words = (fold (walked (rules_for o) []) w words).held

  abbrev total : Walk → List Text → Kinds
  total w words = or_else (walk_fault (shape o) [] w words) (or_else (settle_fault (rules_for o) false (last w words)) (after_settle o (settled (rules_for o) (last w words))))

  abbrev found : Walk → List Text → Parts
  found w words = parts_in (finished (rules_for o) (last w words))

  abbrev Agrees : Walk → List Text → Option Parts → Type 0
  Agrees w words None = total w words ≡ [] → ⊥
  Agrees w words (Some p) = (total w words ≡ []) × (found w words ≡ p)

  closes : (s : Seen) (d : Debt) (is_trailing : Bool) (waits : Waiting) → Fits d o → Agrees (at s d is_trailing waits) [] (option_map parts (paid s d))
  unfolding walk_fault
  closes s d is_trailing waits fits = go (paid s d) (settles o s d fits)
    where
      go : (r : Option Seen) → Settles o s d r → Agrees (at s d is_trailing waits) [] (option_map parts r)
      go None fails = λ e. fails (first_none _ _ e)
      go (Some q) pays = (
        ap₂ (λ (a : Kinds) (h : Held). or_else a (after_settle o h)) pays.0 pays.1 ∙ (settled_well o q).0,
        ap (λ (h : Held). parts_in (fold with_default h.rows (rules_for o))) pays.1 ∙ (settled_well o q).1,
      )

  -- one more word
  fails : (w : Walk) (x : Text) (rest : List Text) → (turn_fault (shape o) [] w x ≡ [] → ⊥) → Agrees w (x ∷ rest) None
  unfolding walk_fault
  fails w x rest refused e = refused (first_none _ _ (first_none _ _ e))

  goes_on : (w after : Walk) (x : Text) (rest : List Text) (r : Option Parts) → turn_fault (shape o) [] w x ≡ [] → walked (rules_for o) [] w x ≡ after
      → Agrees after rest r → Agrees w (x ∷ rest) r
  unfolding walk_fault
  goes_on w after x rest None passes is refused = λ e. refused (sym (ap₂ (λ (a : Kinds) (v : Walk). or_else (or_else a (walk_fault (shape o) [] v rest)) (or_else (settle_fault (rules_for o) false (last v rest)) (after_settle o (settled (rules_for o) (last v rest))))) passes is) ∙ e)
  goes_on w after x rest (Some p) passes is agreed = (
    ap₂ (λ (a : Kinds) (v : Walk). or_else (or_else a (walk_fault (shape o) [] v rest)) (or_else (settle_fault (rules_for o) false (last v rest)) (after_settle o (settled (rules_for o) (last v rest))))) passes is ∙ agreed.0,
    ap (λ (v : Walk). found v rest) is ∙ agreed.1,
  )

  -- ---- words that are values of the positional

  step_pays : (s : Seen) (d : Debt) → step_fault (shape o) 1 (held s d) step_value ≡ settle_fault (rules_for o) false (held s d)
  step_pays s nothing = refl
  step_pays s awaits = refl
  step_pays s (value v) = refl
  step_pays s (word w) = refl

  abbrev After : Seen → Seen → Debt → Bool → Waiting → Text → Type 0
  After s q d is_trailing waits x = after_step (rules_for o) x (at s d is_trailing waits) (held s d) step_value ≡ at q (word x) is_trailing positional

  trailing_word : (s q : Seen) (d : Debt) (waits : Waiting) (x : Text) → settled (rules_for o) (held s d) ≡ held q nothing → After s q d true waits x
  trailing_word s q nothing waits x is = ap (λ (h : Held). walk_with true (pushed (codes "words") x h)) is
  trailing_word s q awaits waits x is = ap (λ (h : Held). walk_with true (pushed (codes "words") x h)) is
  trailing_word s q (value v) waits x is = ap (λ (h : Held). walk_with true (pushed (codes "words") x h)) is
  trailing_word s q (word w) waits x is = ap (λ (h : Held). walk_with true (pushed (codes "words") x h)) is

  plain_word_taken : (s q : Seen) (d : Debt) (waits : Waiting) (x : Text) → settled (rules_for o) (held s d) ≡ held q nothing → After s q d false waits x
  plain_word_taken s q nothing waits x is = ap (λ (h : Held). walk_with false (pushed (codes "words") x h)) is
  plain_word_taken s q awaits waits x is = ap (λ (h : Held). walk_with false (pushed (codes "words") x h)) is
  plain_word_taken s q (value v) waits x is = ap (λ (h : Held). walk_with false (pushed (codes "words") x h)) is
  plain_word_taken s q (word w) waits x is = ap (λ (h : Held). walk_with false (pushed (codes "words") x h)) is

  after_trailing : (s q : Seen) (d : Debt) (waits : Waiting) (x : Text) → settled (rules_for o) (held s d) ≡ held q nothing → walked (rules_for o) [] (at s d true waits) x ≡ at q (word x) true positional
  unfolding walked
  after_trailing s q d waits x is = trailing_word s q d waits x is

  -- ---- after `--`

  abbrev with_words : List Text → Parts → Parts
  with_words ws p = record p { words = p.words ++ ws }

  no_more : (r : Option Seen) → option_map parts r ≡ option_map (λ q. with_words [] (parts q)) r
  no_more None = refl
  no_more (Some q) = ap (λ (ws : List Text). Some (record (parts q) { words = ws })) (sym (append-nil (parts q).words))

  trails : (words : List Text) (s : Seen) (d : Debt) (waits : Waiting) → Fits d o → Agrees (at s d true waits) words (option_map (λ q. with_words words (parts q)) (paid s d))
  trails [] s d waits fits = subst (Agrees (at s d true waits) []) (no_more (paid s d)) (closes s d true waits fits)
  trails (x ∷ rest) s d waits fits = go (λ q. trails rest q (word x) positional tt) (paid s d) (settles o s d fits)
    where
      go : ((q : Seen) → Agrees (at q (word x) true positional) rest (Some (with_words rest (parts (worded q x))))) → (r : Option Seen) → Settles o s d r
          → Agrees (at s d true waits) (x ∷ rest) (option_map (λ q. with_words (x ∷ rest) (parts q)) r)
      go again None refused = fails (at s d true waits) x rest (λ e. refused (sym (step_pays s d) ∙ e))
      go again (Some q) pays =
          let same : with_words rest (parts (worded q x)) ≡ with_words (x ∷ rest) (parts q) = ap (with_words rest) (parts-worded q x) ∙ ap (λ (ws : List Text). record (parts q) { words = ws }) (append_assoc (parts q).words (x ∷ []) rest) in
          goes_on (at s d true waits) (at q (word x) true positional) x rest (Some (with_words (x ∷ rest) (parts q))) (step_pays s d ∙ pays.0) (after_trailing s q d waits x pays.1)
          (subst (λ (p : Parts). Agrees (at q (word x) true positional) rest (Some p)) same (again q))

  -- ---- before `--`

  abbrev before : Seen → Debt → Walk
  before s d = at s d false (waiting d)

  -- what a word comes to, by whether it is `--`, and by what clap makes of one that begins so
  abbrev met_on : Seen → Debt → Text → Bool → Option (Text × Option Text) → Held × Step
  met_on s d x is_end as_long = if is_end then (held s d, step_trailing 1) else long_or_other (rules_for o) (waiting d) x as_long (held s d)

  abbrev turn_on : Seen → Debt → Text → Bool → Option (Text × Option Text) → Kinds
  turn_on s d x is_end as_long = or_else (if is_end then [] else flag_word_fault (rules_for o) false as_long x (held s d))
      (step_fault (shape o) 1 (met_on s d x is_end as_long).0 (met_on s d x is_end as_long).1)

  abbrev walk_on : Seen → Debt → Text → Bool → Option (Text × Option Text) → Walk
  walk_on s d x is_end as_long = after_step (rules_for o) x (before s d) (met_on s d x is_end as_long).0 (met_on s d x is_end as_long).1

  turn_is : (s : Seen) (d : Debt) (x : Text) → turn_fault (shape o) [] (before s d) x ≡ turn_on s d x (bytes_eq x (45 ∷ 45 ∷ [])) (long_of x)
  turn_is s nothing x = refl
  turn_is s awaits x = refl
  turn_is s (value v) x = refl
  turn_is s (word w) x = refl

  walk_is : (s : Seen) (d : Debt) (x : Text) → walked (rules_for o) [] (before s d) x ≡ walk_on s d x (bytes_eq x (45 ∷ 45 ∷ [])) (long_of x)
  unfolding walked
  walk_is s nothing x = refl
  walk_is s awaits x = refl
  walk_is s (value v) x = refl
  walk_is s (word w) x = refl

  -- `--`
  end_turn : (s : Seen) (d : Debt) (x : Text) → bytes_eq x (45 ∷ 45 ∷ []) ≡ true → turn_fault (shape o) [] (before s d) x ≡ []
  end_turn s d x e = turn_is s d x ∙ ap (λ (b : Bool). turn_on s d x b (long_of x)) e

  end_walk : (s : Seen) (d : Debt) (x : Text) → bytes_eq x (45 ∷ 45 ∷ []) ≡ true → walked (rules_for o) [] (before s d) x ≡ at s d true (waiting d)
  end_walk s d x e = walk_is s d x ∙ ap (λ (b : Bool). walk_on s d x b (long_of x)) e

  abbrev plain_met : Seen → Debt → Text → Option Text → Held × Step
  plain_met s d x as_short = short_or_plain (rules_for o) (waiting d) x as_short (held s d)

  abbrev plain_turn_on : Seen → Debt → Text → Option Text → Kinds
  plain_turn_on s d x as_short = or_else (option_map_or (λ flags. bundle_fault (rules_for o) false flags (held s d)) as_short [])
      (step_fault (shape o) 1 (plain_met s d x as_short).0 (plain_met s d x as_short).1)

  plain_turn : (s : Seen) (d : Debt) (x : Text) → IsPlain x → turn_fault (shape o) [] (before s d) x ≡ plain_turn_on s d x None
  plain_turn s d x is = turn_is s d x ∙ ap₂ (turn_on s d x) is.no_end is.no_long ∙ ap (plain_turn_on s d x) is.no_short

  plain_walk : (s : Seen) (d : Debt) (x : Text) → IsPlain x
      → walked (rules_for o) [] (before s d) x ≡ after_step (rules_for o) x (before s d) (plain_met s d x None).0 (plain_met s d x None).1
  plain_walk s d x is = walk_is s d x ∙ ap₂ (walk_on s d x) is.no_end is.no_long
      ∙ ap (λ (f : Option Text). after_step (rules_for o) x (before s d) (plain_met s d x f).0 (plain_met s d x f).1) is.no_short

  -- `--NAME` and `--NAME=VALUE`
  as_long : (s : Seen) (d : Debt) (x : Text) (p : Text × Option Text) → bytes_eq x (45 ∷ 45 ∷ []) ≡ false → long_of x ≡ Some p
      → turn_fault (shape o) [] (before s d) x ≡ turn_on s d x false (Some p)
  as_long s d x p no_end is_long = turn_is s d x ∙ ap₂ (turn_on s d x) no_end is_long

  long_walk : (s : Seen) (d : Debt) (x : Text) (p : Text × Option Text) → bytes_eq x (45 ∷ 45 ∷ []) ≡ false → long_of x ≡ Some p
      → walked (rules_for o) [] (before s d) x ≡ walk_on s d x false (Some p)
  long_walk s d x p no_end is_long = walk_is s d x ∙ ap₂ (walk_on s d x) no_end is_long

  abbrev long_turn : Seen → Debt → Text → Text → Option Text → Option Rule → Kinds
  long_turn s d x name v rule = or_else (long_fault (rules_for o) false rule v (held s d))
      (step_fault (shape o) 1 (after_flag (rules_for o) (waiting d) x (long_met (rules_for o) rule v (held s d)).0 (long_met (rules_for o) rule v (held s d)).1).0
      (after_flag (rules_for o) (waiting d) x (long_met (rules_for o) rule v (held s d)).0 (long_met (rules_for o) rule v (held s d)).1).1)

  abbrev long_after : Seen → Debt → Text → Option Text → Option Rule → Walk
  long_after s d x v rule = after_step (rules_for o) x (before s d)
      (after_flag (rules_for o) (waiting d) x (long_met (rules_for o) rule v (held s d)).0 (long_met (rules_for o) rule v (held s d)).1).0
      (after_flag (rules_for o) (waiting d) x (long_met (rules_for o) rule v (held s d)).0 (long_met (rules_for o) rule v (held s d)).1).1

unknown : (o : Option Text) (name : Text) → is_option o name ≡ false → arg_by_long (rules_for o) name ≡ None
unknown None name e = refl
unknown (Some n) name e = ap (λ (b : Bool). if b || false then Some (built_value n) else None) e

known : (n : Text) (name : Text) → is_option (Some n) name ≡ true → arg_by_long (rules_for (Some n)) name ≡ Some (built_value n)
known n name e = ap (λ (b : Bool). if b || false then Some (built_value n) else None) e

module _ (o : Option Text) where
  refuses_unknown : (s : Seen) (d : Debt) (x name : Text) (v : Option Text) → bytes_eq x (45 ∷ 45 ∷ []) ≡ false → long_of x ≡ Some (name, v) → is_option o name ≡ false
      → turn_fault (shape o) [] (before o s d) x ≡ [] → ⊥
  refuses_unknown s d x name v no_end is_long e none_of =
      some_item _ _ (sym (as_long o s d x (name, v) no_end is_long ∙ ap (long_turn o s d x name v) (unknown o name e)) ∙ none_of)

-- the option with no value attached
awaits_turn : (n : Text) (s : Seen) (d : Debt) (x name : Text) → bytes_eq x (45 ∷ 45 ∷ []) ≡ false → long_of x ≡ Some (name, None) → is_option (Some n) name ≡ true
    → turn_fault (shape (Some n)) [] (before (Some n) s d) x ≡ or_else (settle_fault (rules_for (Some n)) false (held s d)) []
awaits_turn n s d x name no_end is_long e = as_long (Some n) s d x (name, None) no_end is_long ∙ ap (long_turn (Some n) s d x name None) (known n name e)

awaits_walk : (n : Text) (s q : Seen) (d : Debt) (x name : Text) → bytes_eq x (45 ∷ 45 ∷ []) ≡ false → long_of x ≡ Some (name, None) → is_option (Some n) name ≡ true
    → settled (rules_for (Some n)) (held s d) ≡ held q nothing → walked (rules_for (Some n)) [] (before (Some n) s d) x ≡ before (Some n) q awaits
awaits_walk n s q d x name no_end is_long e is = long_walk (Some n) s d x (name, None) no_end is_long ∙ ap (long_after (Some n) s d x None) (known n name e)
    ∙ ap (λ (h : Held). waits_with (record h { pending = Some (codes "value", []) })) is

-- the option with a value attached
given_turn : (n : Text) (s : Seen) (d : Debt) (x name v : Text) → bytes_eq x (45 ∷ 45 ∷ []) ≡ false → long_of x ≡ Some (name, Some v) → is_option (Some n) name ≡ true
    → turn_fault (shape (Some n)) [] (before (Some n) s d) x
    ≡ or_else (or_else (settle_fault (rules_for (Some n)) false (held s d)) (use_fault false (built_value n) (v ∷ []) (settled (rules_for (Some n)) (held s d)).rows)) []
given_turn n s d x name v no_end is_long e = as_long (Some n) s d x (name, Some v) no_end is_long ∙ ap (long_turn (Some n) s d x name (Some v)) (known n name e)

given_walk : (n : Text) (s q r : Seen) (d : Debt) (x name v : Text) → bytes_eq x (45 ∷ 45 ∷ []) ≡ false → long_of x ≡ Some (name, Some v) → is_option (Some n) name ≡ true
    → settled (rules_for (Some n)) (held s d) ≡ held q nothing → settled (rules_for (Some n)) (held q (value v)) ≡ held r nothing
    → walked (rules_for (Some n)) [] (before (Some n) s d) x ≡ before (Some n) r nothing
given_walk n s q r d x name v no_end is_long e is then_is = long_walk (Some n) s d x (name, Some v) no_end is_long ∙ ap (long_after (Some n) s d x (Some v)) (known n name e)
    ∙ ap (λ (h : Held). idle_with (record h { rows = used (built_value n) (v ∷ []) h.rows })) is ∙ ap idle_with then_is

-- one more word

module _ (o : Option Text) where
  abbrev from : List Text → Option Seen → Option Parts
  from words None = None
  from words (Some q) = read o words false (parts q)

  -- what the definition reads, from what was used and what is pending
  abbrev reading : List Text → Seen → Debt → Option Parts
  reading words s nothing = from words (Some s)
  reading words s awaits = read o words true (parts s)
  reading words s (value v) = from words (valued s v)
  reading words s (word w) = from words (Some (worded s w))

  abbrev Holds : List Text → Type 0
  Holds rest = (s : Seen) (d : Debt) → Fits d o → Agrees o (before o s d) rest (reading rest s d)

  abbrev long_from : List Text → Bool → Option Text → Option Seen → Option Parts
  long_from rest is_known v None = None
  long_from rest is_known v (Some q) = if is_known then own.option_read v (parts q) (read o rest) else None

  abbrev look_from : Text → List Text → Look → Option Seen → Option Parts
  look_from x rest l None = None
  look_from x rest l (Some q) = own.word_read o l x rest (parts q) (read o rest)

  from_end : (r : Option Seen) → option_map parts r ≡ from [] r
  from_end None = refl
  from_end (Some q) = refl

  from_look : (x : Text) (rest : List Text) (r : Option Seen) → look_from x rest (look x) r ≡ from (x ∷ rest) r
  from_look x rest None = refl
  from_look x rest (Some q) = refl

  from_value : (rest : List Text) (r : Option Seen) → own.value_given (read o rest false) (option_map parts r) ≡ from rest r
  from_value rest None = refl
  from_value rest (Some q) = refl

  value_from : (rest : List Text) (q : Seen) (v : Text) → own.value_given (read o rest false) (own.with_value v (parts q)) ≡ from rest (valued q v)
  value_from rest q v = ap (own.value_given (read o rest false)) (sym (parts-valued q v)) ∙ from_value rest (valued q v)

given_ready : (n : Text) (x : Text) (rest : List Text) (name v : Text) → Holds (Some n) rest → (s q : Seen) (d : Debt)
    → bytes_eq x (45 ∷ 45 ∷ []) ≡ false → long_of x ≡ Some (name, Some v) → is_option (Some n) name ≡ true → Settles (Some n) s d (Some q)
    → (r : Option Seen) → Settles (Some n) q (value v) r → Agrees (Some n) (before (Some n) s d) (x ∷ rest) (from (Some n) rest r)
given_ready n x rest name v again s q d no_end is_long e pays None refused =
    let turn = given_turn n s d x name v no_end is_long e
    ∙ ap₂ (λ (k : Kinds) (h : Held). or_else (or_else k (use_fault false (built_value n) (v ∷ []) h.rows)) []) pays.0 pays.1 in
    fails (Some n) (before (Some n) s d) x rest (λ z. refused (first_none _ _ (sym turn ∙ z)))
given_ready n x rest name v again s q d no_end is_long e pays (Some r) paid_too =
    let turn = given_turn n s d x name v no_end is_long e
    ∙ ap₂ (λ (k : Kinds) (h : Held). or_else (or_else k (use_fault false (built_value n) (v ∷ []) h.rows)) []) pays.0 pays.1 in
    goes_on (Some n) (before (Some n) s d) (before (Some n) r nothing) x rest (read (Some n) rest false (parts r)) (turn ∙ ap (λ (k : Kinds). or_else k []) paid_too.0)
    (given_walk n s q r d x name v no_end is_long e pays.1 paid_too.1) (again r nothing tt)

long_ready : (o : Option Text) (x : Text) (rest : List Text) (name : Text) (v : Option Text) → Holds o rest → (s : Seen) (d : Debt)
    → bytes_eq x (45 ∷ 45 ∷ []) ≡ false → long_of x ≡ Some (name, v) → (r : Option Seen) → Settles o s d r
    → (t : Bool) → is_option o name ≡ t → Agrees o (before o s d) (x ∷ rest) (long_from o rest t v r)
long_ready o x rest name v again s d no_end is_long None pays false e = fails o (before o s d) x rest (refuses_unknown o s d x name v no_end is_long e)
long_ready o x rest name v again s d no_end is_long (Some q) pays false e = fails o (before o s d) x rest (refuses_unknown o s d x name v no_end is_long e)
long_ready None x rest name v again s d no_end is_long r pays true e = absurd (true≢false (sym e))
long_ready (Some n) x rest name None again s d no_end is_long None pays true e =
    fails (Some n) (before (Some n) s d) x rest (λ z. pays (first_none _ _ (sym (awaits_turn n s d x name no_end is_long e) ∙ z)))
long_ready (Some n) x rest name None again s d no_end is_long (Some q) pays true e =
    goes_on (Some n) (before (Some n) s d) (before (Some n) q awaits) x rest (read (Some n) rest true (parts q))
    (awaits_turn n s d x name no_end is_long e ∙ ap (λ (k : Kinds). or_else k []) pays.0) (awaits_walk n s q d x name no_end is_long e pays.1) (again q awaits tt)
long_ready (Some n) x rest name (Some v) again s d no_end is_long None pays true e =
    fails (Some n) (before (Some n) s d) x rest (λ z. pays (first_none _ _ (first_none _ _ (sym (given_turn n s d x name v no_end is_long e) ∙ z))))
long_ready (Some n) x rest name (Some v) again s d no_end is_long (Some q) pays true e =
    subst (Agrees (Some n) (before (Some n) s d) (x ∷ rest)) (sym (value_from (Some n) rest q v))
    (given_ready n x rest name v again s q d no_end is_long e pays (valued q v) (settles (Some n) q (value v) tt))

abbrev IsReady : Debt → Type 0
IsReady nothing = ⊤
IsReady awaits = ⊥
IsReady (value v) = ⊤
IsReady (word w) = ⊤

module _ (o : Option Text) where
  plain_pays : (s : Seen) (d : Debt) (x : Text) → IsReady d → IsPlain x → turn_fault (shape o) [] (before o s d) x ≡ settle_fault (rules_for o) false (held s d)
  plain_pays s nothing x ready is = plain_turn o s nothing x is ∙ step_pays o s nothing
  plain_pays s awaits x ready is = absurd ready
  plain_pays s (value v) x ready is = plain_turn o s (value v) x is ∙ step_pays o s (value v)
  plain_pays s (word w) x ready is = plain_turn o s (word w) x is ∙ step_pays o s (word w)

  plain_goes : (s q : Seen) (d : Debt) (x : Text) → IsReady d → IsPlain x → settled (rules_for o) (held s d) ≡ held q nothing
      → walked (rules_for o) [] (before o s d) x ≡ before o q (word x)
  plain_goes s q nothing x ready is e = plain_walk o s nothing x is ∙ plain_word_taken o s q nothing (waiting nothing) x e
  plain_goes s q awaits x ready is e = absurd ready
  plain_goes s q (value v) x ready is e = plain_walk o s (value v) x is ∙ plain_word_taken o s q (value v) (waiting (value v)) x e
  plain_goes s q (word w) x ready is e = plain_walk o s (word w) x is ∙ plain_word_taken o s q (word w) (waiting (word w)) x e

  by_ready : (x : Text) (rest : List Text) → (has_single rest ≡ false → Holds o rest) → (s : Seen) (d : Debt) → IsReady d → Fits d o
      → (l : Look) → IsLook x l → is_single_look l (has_single rest) ≡ false → (r : Option Seen) → paid s d ≡ r → Settles o s d r
      → Agrees o (before o s d) (x ∷ rest) (look_from o x rest l r)
  by_ready x rest again s d ready fits plain is good None pays_is refused =
      fails o (before o s d) x rest (λ z. refused (sym (plain_pays s d x ready is) ∙ z))
  by_ready x rest again s d ready fits plain is good (Some q) pays_is pays =
      goes_on o (before o s d) (before o q (word x)) x rest (read o rest false (own.with_word x (parts q))) (plain_pays s d x ready is ∙ pays.0)
      (plain_goes s q d x ready is pays.1)
      (subst (λ (p : Parts). Agrees o (before o q (word x)) rest (read o rest false p)) (parts-worded q x) (again good q (word x) tt))
  by_ready x rest again s d ready fits single is good r pays_is pays = absurd (true≢false good)
  by_ready x rest again s d ready fits end is good None pays_is pays =
      goes_on o (before o s d) (at s d true (waiting d)) x rest None (end_turn o s d x is) (end_walk o s d x is)
      (subst (λ (r : Option Seen). Agrees o (at s d true (waiting d)) rest (option_map (λ q. with_words o rest (parts q)) r)) pays_is (trails o rest s d (waiting d) fits))
  by_ready x rest again s d ready fits end is good (Some q) pays_is pays =
      goes_on o (before o s d) (at s d true (waiting d)) x rest (Some (with_words o rest (parts q))) (end_turn o s d x is) (end_walk o s d x is)
      (subst (λ (r : Option Seen). Agrees o (at s d true (waiting d)) rest (option_map (λ q. with_words o rest (parts q)) r)) pays_is (trails o rest s d (waiting d) fits))
  by_ready x rest again s d ready fits (long name v) is good None pays_is pays =
      long_ready o x rest name v (again good) s d is.0 is.1 None pays (is_option o name) refl
  by_ready x rest again s d ready fits (long name v) is good (Some q) pays_is pays =
      long_ready o x rest name v (again good) s d is.0 is.1 (Some q) pays (is_option o name) refl

value_taken : (n : Text) (s : Seen) (x : Text) → IsPlain x → walked (rules_for (Some n)) [] (before (Some n) s awaits) x ≡ before (Some n) s (value x)
value_taken n s x is = plain_walk (Some n) s awaits x is

by_awaits : (o : Option Text) (x : Text) (rest : List Text) → (has_single rest ≡ false → Holds o rest) → (s : Seen) → Fits awaits o
    → (l : Look) → IsLook x l → is_single_look l (has_single rest) ≡ false
    → Agrees o (before o s awaits) (x ∷ rest) (own.value_read l x (parts s) (read o rest))
by_awaits None x rest again s fits l is good = absurd fits
by_awaits (Some n) x rest again s fits plain is good =
    goes_on (Some n) (before (Some n) s awaits) (before (Some n) s (value x)) x rest (own.value_given (read (Some n) rest false) (own.with_value x (parts s)))
    (plain_turn (Some n) s awaits x is) (value_taken n s x is)
    (subst (Agrees (Some n) (before (Some n) s (value x)) rest) (sym (value_from (Some n) rest s x)) (again good s (value x) tt))
by_awaits (Some n) x rest again s fits single is good = absurd (true≢false good)
by_awaits (Some n) x rest again s fits end is good =
    goes_on (Some n) (before (Some n) s awaits) (at s awaits true (waiting awaits)) x rest None (end_turn (Some n) s awaits x is) (end_walk (Some n) s awaits x is)
    (trails (Some n) rest s awaits (waiting awaits) fits)
by_awaits (Some n) x rest again s fits (long name v) is good =
    long_ready (Some n) x rest name v (again good) s awaits is.0 is.1 None (settles (Some n) s awaits fits) (is_option (Some n) name) refl

-- all the words

walks : (o : Option Text) (words : List Text) → has_single words ≡ false → (s : Seen) (d : Debt) → Fits d o → Agrees o (before o s d) words (reading o words s d)
walks o [] good s nothing fits = closes o s nothing false (waiting nothing) fits
walks o [] good s awaits fits = closes o s awaits false (waiting awaits) fits
walks o [] good s (value v) fits = subst (Agrees o (before o s (value v)) []) (from_end o (valued s v)) (closes o s (value v) false (waiting (value v)) fits)
walks o [] good s (word w) fits = closes o s (word w) false (waiting (word w)) fits
walks o (x ∷ rest) good s nothing fits = by_ready o x rest (walks o rest) s nothing tt fits (look x) (look_is x) good (Some s) refl (settles o s nothing fits)
walks o (x ∷ rest) good s awaits fits = by_awaits o x rest (walks o rest) s fits (look x) (look_is x) good
walks o (x ∷ rest) good s (value v) fits = subst (Agrees o (before o s (value v)) (x ∷ rest)) (from_look o x rest (valued s v))
    (by_ready o x rest (walks o rest) s (value v) tt fits (look x) (look_is x) good (valued s v) refl (settles o s (value v) fits))
walks o (x ∷ rest) good s (word w) fits = by_ready o x rest (walks o rest) s (word w) tt fits (look x) (look_is x) good (Some (worded s w)) refl (settles o s (word w) fits)

-- what the definition reads, beside the faults and the matches of clap
abbrev pub Reads : Kinds → List Row → Option Parts → Type 0
Reads faults rows None = faults ≡ [] → ⊥
Reads faults rows (Some p) = (faults ≡ []) × (parts_in rows ≡ p)

pub reads : (o : Option Text) (words : List Text) → has_single words ≡ false → Reads (fault_of (app o) words) (matches_of (app o) words) (parts_of o words)
reads o words good = go (parts_of o words) (walks o words good none nothing tt)
  where
    faults : fault_of (app o) words ≡ total o (before o none nothing) words
    faults = leaf_fault (built (app o)) nothing_held words refl

    go : (r : Option Parts) → Agrees o (before o none nothing) words r → Reads (fault_of (app o) words) (matches_of (app o) words) r
    go None refused = λ e. refused (sym faults ∙ e)
    go (Some p) agreed = (faults ∙ agreed.0, agreed.1)

pub is_simple_app : (o : Option Text) → is_simple (app o) ≡ true
is_simple_app None = refl
is_simple_app (Some n) = refl

pub is_free_app : (o : Option Text) → is_simple_and_free (app o) ≡ true
is_free_app None = refl
is_free_app (Some n) = refl

-- what clap answered

pub taken : (o : Option Text) (words : List Text) → has_single words ≡ false → fault_of (app o) words ≡ []
    → parts_of o words ≡ Some (parts_in (matches_of (app o) words))
taken o words good none_of = go (parts_of o words) (reads o words good)
  where
    go : (r : Option Parts) → Reads (fault_of (app o) words) (matches_of (app o) words) r → r ≡ Some (parts_in (matches_of (app o) words))
    go None refused = absurd (refused none_of)
    go (Some p) agreed = ap (λ (q : Parts). Some q) (sym agreed.1)

usage_is : (e : ErrorKind) → e ≡ kind.OutOfMemory → fault_by e ≡ Usage → ⊥
usage_is e is bad = let not_so : NoMemory ≡ Usage = sym (ap fault_by is) ∙ bad in cc

pub refuses : (o : Option Text) (words : List Text) (e : ErrorKind) → has_single words ≡ false
    → (e ≡ kind.OutOfMemory) ⊎ IsAmong e (fault_of (app o) words) → fault_by e ≡ Usage → parts_of o words ≡ None
refuses o words e good (inl is) usage = absurd (usage_is e is usage)
refuses o words e good (inr among) usage = go (parts_of o words) (reads o words good)
  where
    go : (r : Option Parts) → Reads (fault_of (app o) words) (matches_of (app o) words) r → r ≡ None
    go None refused = refl
    go (Some p) agreed = absurd (subst (IsAmong e) agreed.0 among)

-- words of which one has one hyphen alone

module _ (o : Option Text) where
  abbrev IsRefused : List Text → Type 0
  IsRefused rest = (waits : Bool) (p : Parts) → true ≡ has_single rest → read o rest waits p ≡ None

  given_refused : (rest : List Text) → IsRefused rest → true ≡ has_single rest → (r : Option Parts) → own.value_given (read o rest false) r ≡ None
  given_refused rest again e None = refl
  given_refused rest again e (Some p) = again false p e

  option_refused : (rest : List Text) → IsRefused rest → true ≡ has_single rest → (v : Option Text) (p : Parts) (t : Bool)
      → (if t then own.option_read v p (read o rest) else None) ≡ None
  option_refused rest again e v p false = refl
  option_refused rest again e None p true = again true p e
  option_refused rest again e (Some v) p true = given_refused rest again e (own.with_value v p)

  word_refused : (x : Text) (rest : List Text) → IsRefused rest → (p : Parts) (l : Look) → true ≡ is_single_look l (has_single rest)
      → own.word_read o l x rest p (read o rest) ≡ None
  word_refused x rest again p plain e = again false (own.with_word x p) e
  word_refused x rest again p single e = refl
  word_refused x rest again p end e = absurd (true≢false e)
  word_refused x rest again p (long name v) e = option_refused rest again e v p (is_option o name)

  value_refused : (x : Text) (rest : List Text) → IsRefused rest → (p : Parts) (l : Look) → true ≡ is_single_look l (has_single rest)
      → own.value_read l x p (read o rest) ≡ None
  value_refused x rest again p plain e = given_refused rest again e (own.with_value x p)
  value_refused x rest again p single e = refl
  value_refused x rest again p end e = refl
  value_refused x rest again p (long name v) e = refl

pub refused_single : (o : Option Text) (words : List Text) (waits : Bool) (p : Parts) → true ≡ has_single words → read o words waits p ≡ None
refused_single o [] waits p e = absurd (true≢false e)
refused_single o (x ∷ rest) false p e = word_refused o x rest (refused_single o rest) p (look x) e
refused_single o (x ∷ rest) true p e = value_refused o x rest (refused_single o rest) p (look x) e
