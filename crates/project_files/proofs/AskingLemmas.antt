-- Reading goes on: each file is asked for once, so what holds of the files that were read goes on to hold.
use Rattle.std.proofs.Common.{◌≡◌, ◌≢◌, ℕ, codes, length, slice_index, Bool, true, false, true≢false, ◌&&◌, ◌||◌, not, is_some, List, [], ◌∷◌, ◌++◌, Option, Some, None, Result, Ok, Err, Vec, get_or, map, if◌then◌else◌, inl, inr, refl, sym, ap, subst, ◌∙◌}
use Rattle.std.specs.declared.option.Option.{Option}
use Rattle.std.specs.Str.{bytes_eq}
use Rattle.std.specs.List.{find, fold, list_any, slice_get}
use Rattle.std.specs.Map.{lookup, lookup_key}
use Rattle.std.specs.Prelude.{cond, option_and_then, ◌⊎◌}
use Rattle.std.proofs.lemmas.List.{append_assoc}
use Rattle.std.proofs.lemmas.List.Folds.{list_any-append}
use Rattle.std.proofs.lemmas.List.Elements.{All-push}
use Rattle.geda_defs.specs.Contents.{Files, KeepsFiles, ReadsFile, found_bytes}
use Rattle.std.specs.declared.alloc.Global.{Global}
use Rattle.std.proofs.lemmas.Bool.{le-leb, ne_eqb, or_cases, or_parts}
use Rattle.std.proofs.lemmas.Map.Made.{lookup_key_passes}
use Rattle.geda_defs.proofs.Bytes.{bytes_false, bytes_same, bytes_true}
use Rattle.attr_rules.specs.Attributes.{attr, attrs}
use Rattle.attr_rules.specs.Components.{is_annotation}
use Rattle.geda_model.specs.Limits.{most_name_bytes}
use Rattle.geda_model.specs.Names.{IsName, is_name}
use Rattle.geda_model.specs.Shapes.{ComponentData}
use Rattle.geda_model.specs.Sheets.{ObjectData, SymbolData}
use Rattle.project_files.specs.declared.fault.FileFault.{FileFault}
use Rattle.project_files.specs.Gathering.{AskedSymbol, Gathered, ProjectFiles, SymbolComesTo, SymbolFileComesTo, SymbolUnless, asked_symbol, has_file_name, library_read, named_sheets, named_symbol, sources_of, with_sources, with_symbol, queue_with_value}
use Rattle.project_files.specs.FileReads.{Then}
use Rattle.project_files.specs.ProjectFiles.{OfSome}
use Rattle.project_files.specs.steps.Reading.{SymbolFrom, SymbolOf}
use Rattle.indexmap.specs.IndexSet.{insert_key}
use Rattle.geda_model.specs.declared.object.Body.TheVariants as bodies
use Rattle.geda_model.specs.declared.shape.Shape.{Shape}
use Rattle.project_files.specs.ProjectFiles.{with_view}
use Rattle.project_files.specs.steps.Progress.{AreTold, AskedData, Asks, Fits, Follows, IsAsked, IsFoundOf, IsWaiting, Leads, LeadsOut, Progress, SheetFileData, at, gathered, is_asked_symbol, is_in, with_files}
use Rattle.project_files.specs.steps.Asking.{AsksComponent, AsksNothing, AsksObject, AsksObjects, AsksSymbol, AsksValues, IsKnown, LeavesObjects, LeavesValues, component_values, is_known, symbol_of, with_values}

-- files that stay twice stay
pub kept_on : (old between now : Option Files) → KeepsFiles old between → KeepsFiles between now → KeepsFiles old now
kept_on None between now p q = tt
kept_on (Some f) None now p q = absurd p
kept_on (Some f) (Some g) None p q = absurd q
kept_on (Some f) (Some g) (Some h) p q = λ name. q name ∙ p name

-- files stay as they are
pub stays : (files : Option Files) → KeepsFiles files files
stays None = tt
stays (Some files) = λ name. refl

-- some files of a folder of which something holds
pub some_files : (now : Option Files) (P : Files → Type 0) → OfSome now P → (files : Files) × P files
some_files None P h = h
some_files (Some files) P h = (files, h)

-- what was asked for stays so

pub follows_self : (p : Progress) → Follows p p
follows_self p = record { sheets = λ name asked. (asked, refl); symbols = λ name asked. (asked, refl) }

pub follows_on : (a b c : Progress) → Follows a b → Follows b c → Follows a c
follows_on a b c f g = record {
  sheets = λ name asked. ((g.sheets name (f.sheets name asked).0).0, (g.sheets name (f.sheets name asked).0).1 ∙ (f.sheets name asked).1);
  symbols = λ name asked. ((g.symbols name (f.symbols name asked).0).0, (g.symbols name (f.symbols name asked).0).1 ∙ (f.symbols name asked).1);
}

-- files that are as those now are as those before
pub follows_back : (a b : Progress) (files : ProjectFiles) → Follows a b → Follows b (with_files b files) → Follows a (with_files a files)
follows_back a b files f g = record {
  sheets = λ name asked. (asked, (g.sheets name (f.sheets name asked).0).1 ∙ (f.sheets name asked).1);
  symbols = λ name asked. (asked, (g.symbols name (f.symbols name asked).0).1 ∙ (f.symbols name asked).1);
}

-- one call after another

pub leads_then : (files mid : Option Files) (before between now : AskedData) (P Q R : ProjectFiles → Type 0) → Leads files before between P → KeepsFiles files mid → Leads mid between now Q → ((known : ProjectFiles) → P known → Q known → R known) → Leads files before now R
leads_then files mid before between now P Q R first keeps second both told kept read words old fits =
    let a = first told kept read words old fits in
    let b = second told (kept_on told files mid kept keeps) read words a.0 a.1.fits in (
      b.0,
      record {
        follows = follows_on (at before read words old) (at between read words a.0) (at now read words b.0) a.1.follows b.1.follows;
        fits = b.1.fits;
        holds = λ known f. both known (a.1.holds known (follows_back (at between read words a.0) (at now read words b.0) known b.1.follows f)) (b.1.holds known f);
      },
    )

pub leads_out : (files mid : Option Files) (before between : AskedData) (P Q R : ProjectFiles → Type 0) → Leads files before between P → KeepsFiles files mid → LeadsOut mid between Q → ((known : ProjectFiles) → P known → Q known → R known) → LeadsOut files before R
leads_out files mid before between P Q R first keeps second both told kept read words old fits =
    let a = first told kept read words old fits in
    let b = second told (kept_on told files mid kept keeps) read words a.0 a.1.fits in (
      b.0,
      record {
        follows = follows_back (at before read words old) (at between read words a.0) b.0 a.1.follows b.1.follows;
        as_told = b.1.as_told;
        holds = both b.0 (a.1.holds b.0 b.1.follows) b.1.holds;
      },
    )

pub asks_then : (files mid : Option Files) (before between : AskedData) (P : ProjectFiles → Type 0) (Q R : ProjectFiles → Result AskedData FileFault → Type 0) (outcome : Result AskedData FileFault) → Leads files before between P → KeepsFiles files mid → ((known : ProjectFiles) → P known → Q known outcome → R known outcome) → Asks mid between Q outcome → Asks files before R outcome
asks_then files mid before between P Q R (Ok now) first keeps both second = leads_then files mid before between now P (λ known. Q known (Ok now)) (λ known. R known (Ok now)) first keeps second both
asks_then files mid before between P Q R (Err fault) first keeps both second = leads_out files mid before between P (λ known. Q known (Err fault)) (λ known. R known (Err fault)) first keeps second both

-- a fault of a first call
pub out_as : (files : Option Files) (before : AskedData) (P Q : ProjectFiles → Type 0) → ((known : ProjectFiles) → P known → Q known) → LeadsOut files before P → LeadsOut files before Q
out_as files before P Q as_well out told kept read words old fits =
    let a = out told kept read words old fits in
    (a.0, record { follows = a.1.follows; as_told = a.1.as_told; holds = as_well a.0 a.1.holds })

-- nothing is asked for
pub leads_known : (files : Option Files) (before : AskedData) (P : ProjectFiles → Type 0) → ((told : Option Files) (read words : List (List ℕ)) (old known : ProjectFiles) → Fits told (at before read words old) → Follows (at before read words old) (at before read words known) → P known) → Leads files before before P
leads_known files before P all told kept read words old fits = (
  old,
  record {
    follows = follows_self (at before read words old);
    fits = fits;
    holds = λ known f. all told read words old known fits f;
  },
)

pub leads_self : (files : Option Files) (before : AskedData) (P : ProjectFiles → Type 0) → ((known : ProjectFiles) → P known) → Leads files before before P
leads_self files before P all = leads_known files before P (λ told read words old known fits f. all known)

-- the files of one folder, but at one name another file
abbrev pub changed : Files → List ℕ → Option (List ℕ) → Files
changed files name file q = if bytes_eq q name then file else files q

changed_there : (files : Files) (name : List ℕ) (file : Option (List ℕ)) → changed files name file name ≡ file
changed_there files name file = rw (bytes_true name name refl) refl

changed_apart : (files : Files) (name : List ℕ) (file : Option (List ℕ)) (q : List ℕ) → q ≢ name → changed files name file q ≡ files q
changed_apart files name file q apart = rw (bytes_false q name apart) refl

-- the same list of asked files, with one more file that is known
abbrev pub WithSymbol : Option Files → Progress → List ℕ → (Option (List ℕ) → Type 0) → Type 0
WithSymbol told p name P = (known : ProjectFiles) × AreTold told known × P (known.symbols name) × Follows p (with_files p known)

pub more_symbols : (told files : Option Files) (p : Progress) (name : List ℕ) (P : Option (List ℕ) → Type 0) → KeepsFiles told files → AreTold told p.files → OfSome files (λ known. P (known name)) → is_asked_symbol name p.asked.symbols ≡ false → WithSymbol told p name P
more_symbols None files p name P keeps is h fresh =
    let found = some_files files (λ (fs : Files). P (fs name)) h in
    let known : ProjectFiles = record { sheets = p.files.sheets; symbols = changed p.files.symbols name (found.0 name) } in (
      known,
      tt,
      subst P (sym (changed_there p.files.symbols name (found.0 name))) found.1,
      record {
        sheets = λ q asked. (asked, refl);
        symbols = λ q asked. (asked, changed_apart p.files.symbols name (found.0 name) q (λ same. true≢false (sym asked ∙ subst (λ (n : List ℕ). is_asked_symbol n p.asked.symbols ≡ false) (sym same) fresh)));
      },
    )
more_symbols (Some f) None p name P keeps is h fresh = absurd keeps
more_symbols (Some f) (Some g) p name P keeps is h fresh =
    (p.files, is, subst P (keeps name ∙ sym (ap (λ (k : ProjectFiles). k.symbols name) is)) h, follows_self p)

abbrev pub WithSheet : Option Files → Progress → List ℕ → (Option (List ℕ) → Type 0) → Type 0
WithSheet told p name P = (known : ProjectFiles) × AreTold told known × P (known.sheets name) × Follows p (with_files p known)

pub more_sheets : (told files : Option Files) (p : Progress) (name : List ℕ) (P : Option (List ℕ) → Type 0) → KeepsFiles told files → AreTold told p.files → OfSome files (λ known. P (known name)) → (IsAsked p name → ⊥) → WithSheet told p name P
more_sheets None files p name P keeps is h fresh =
    let found = some_files files (λ (fs : Files). P (fs name)) h in
    let known : ProjectFiles = record { sheets = changed p.files.sheets name (found.0 name); symbols = p.files.symbols } in (
      known,
      tt,
      subst P (sym (changed_there p.files.sheets name (found.0 name))) found.1,
      record {
        sheets = λ q asked. (asked, changed_apart p.files.sheets name (found.0 name) q (λ same. fresh (subst (IsAsked p) same asked)));
        symbols = λ q asked. (asked, refl);
      },
    )
more_sheets (Some f) None p name P keeps is h fresh = absurd keeps
more_sheets (Some f) (Some g) p name P keeps is h fresh =
    (p.files, is, subst P (keeps name ∙ sym (ap (λ (k : ProjectFiles). k.sheets name) is)) h, follows_self p)

-- what fits goes on to fit
pub waits_on : (p now : Progress) (sheet : SheetFileData) → Follows p now → IsWaiting p sheet → IsWaiting now sheet
waits_on p now sheet follows w =
    let f = follows.sheets sheet.name w.0 in
    (f.0, subst (IsFoundOf (Some sheet.bytes)) (sym f.1) w.1)

-- a symbol file

symbol_comes : (g : Gathered) (name : List ℕ) (symbol : Option SymbolData) (file : Option (List ℕ)) → SymbolOf name file (Ok symbol) → SymbolFileComesTo g name file (Ok (with_symbol g name symbol))
symbol_comes g name symbol None h = let e : symbol ≡ None = cc in ap (λ (s : Option SymbolData). Ok (with_symbol g name s)) e
symbol_comes g name symbol (Some bytes) (inl (value, spelled, is)) =
    let e : symbol ≡ Some value = cc in
    inl (value, spelled, ap (λ (s : Option SymbolData). Ok (with_symbol g name s)) e)
symbol_comes g name symbol (Some bytes) (inr (line, kind, fault, is)) = absurd cc

symbol_refused : (g : Gathered) (name : List ℕ) (fault : FileFault) (file : Option (List ℕ)) → SymbolOf name file (Err fault) → SymbolFileComesTo g name file (Err fault)
symbol_refused g name fault None h = absurd cc
symbol_refused g name fault (Some bytes) (inl (value, spelled, is)) = absurd cc
symbol_refused g name fault (Some bytes) (inr (line, kind, has, is)) = inr (line, kind, has, cc)

-- with one more symbol file
abbrev pub and_symbol : AskedData → List ℕ → Option SymbolData → AskedData
and_symbol asked name symbol = record {
  queue = asked.queue;
  waiting = asked.waiting;
  absent = asked.absent;
  symbols = asked.symbols ++ (name, symbol) ∷ [];
}

or_false : (b : Bool) → (b || false) ≡ b
or_false true = refl
or_false false = refl

pub last_true : {X : Type 0} (test : X → Bool) (xs : List X) (x : X) → test x ≡ true → list_any test (xs ++ x ∷ []) ≡ true
last_true test xs x e = list_any-append test xs (x ∷ []) ∙ go (list_any test xs) (rw e refl)
  where
    go : (b : Bool) {c : Bool} → c ≡ true → (b || c) ≡ true
    go true e = refl
    go false e = e

pub still_true : {X : Type 0} (test : X → Bool) (xs ys : List X) → list_any test xs ≡ true → list_any test (xs ++ ys) ≡ true
still_true test xs ys e = list_any-append test xs ys ∙ rw e refl

still_false : {X : Type 0} (test : X → Bool) (xs : List X) (x : X) → list_any test xs ≡ false → test x ≡ false → list_any test (xs ++ x ∷ []) ≡ false
still_false test xs x e f = list_any-append test xs (x ∷ []) ∙ rw (e, f) refl

in_last : (q name : List ℕ) (names : List (List ℕ)) → is_in q (names ++ name ∷ []) ≡ true → (is_in q names ≡ true) ⊎ (q ≡ name)
in_last q name names e = go (or_cases (is_in q names) (bytes_eq q name || false) (sym (list_any-append (bytes_eq q) names (name ∷ [])) ∙ e))
  where
    go : (is_in q names ≡ true) ⊎ ((bytes_eq q name || false) ≡ true) → (is_in q names ≡ true) ⊎ (q ≡ name)
    go (inl there) = inl there
    go (inr last) = inr (bytes_same q name (sym (or_false (bytes_eq q name)) ∙ last))

module _ (files : Option Files) (before : AskedData) (name : List ℕ) (fresh : is_asked_symbol name before.symbols ≡ false) where
  pub symbol_leads : (symbol : Option SymbolData) → SymbolFrom files name (Ok symbol) → Leads files before (and_symbol before name symbol) (λ known. AsksSymbol before (Some name) known (Ok (and_symbol before name symbol)))
  symbol_leads symbol from told kept read words old fits =
      let p = at before read words old in
      let more = more_symbols told files p name (λ (file : Option (List ℕ)). SymbolOf name file (Ok symbol)) kept fits.as_told from fresh in
      let now = at (and_symbol before name symbol) read words more.0 in
      let follows : Follows p now = record {
        sheets = λ q asked. (asked, (more.3.sheets q asked).1);
        symbols = λ q asked. (still_true (has_file_name q) before.symbols ((name, symbol) ∷ []) asked, (more.3.symbols q asked).1);
      } in (
        more.0,
        record {
          follows = follows;
          fits = record {
            as_told = more.1;
            queue = fits.queue;
            waiting = λ k d lt. waits_on p now (get_or before.waiting k d) follows (fits.waiting k d lt);
            absent = λ q asked. (more.3.sheets q (inl asked)).1 ∙ fits.absent q asked;
            apart = fits.apart;
          };
          holds = λ known f sheets.
              let same = (f.symbols name (last_true (has_file_name name) before.symbols (name, symbol) (bytes_true name name refl))).1 in
              subst (λ (b : Bool). SymbolUnless b known.symbols (gathered sheets before) name (Ok (gathered sheets (and_symbol before name symbol)))) (sym fresh)
              (symbol_comes (gathered sheets before) name symbol (known.symbols name) (subst (λ (file : Option (List ℕ)). SymbolOf name file (Ok symbol)) (sym same) more.2));
        },
      )

  pub symbol_fault : (fault : FileFault) → SymbolFrom files name (Err fault) → LeadsOut files before (λ known. AsksSymbol before (Some name) known (Err fault))
  symbol_fault fault from told kept read words old fits =
      let p = at before read words old in
      let more = more_symbols told files p name (λ (file : Option (List ℕ)). SymbolOf name file (Err fault)) kept fits.as_told from fresh in (
        more.0,
        record {
          follows = more.3;
          as_told = more.1;
          holds = λ sheets.
              subst (λ (b : Bool). SymbolUnless b more.0.symbols (gathered sheets before) name (Err fault)) (sym fresh)
              (symbol_refused (gathered sheets before) name fault (more.0.symbols name) more.2);
        },
      )

-- a sheet that a value names

-- with a sheet that was found
abbrev pub and_sheet : AskedData → List ℕ → List ℕ → AskedData
and_sheet asked name bytes = record {
  queue = asked.queue ++ name ∷ [];
  waiting = asked.waiting ++ record { name = name; bytes = bytes } ∷ [];
  absent = asked.absent;
  symbols = asked.symbols;
}

-- with a sheet that the folder does not have
abbrev pub and_absent : AskedData → List ℕ → AskedData
and_absent asked name = record {
  queue = asked.queue;
  waiting = asked.waiting;
  absent = asked.absent ++ name ∷ [];
  symbols = asked.symbols;
}

pub not_new : (files : Files) (queue : List (List ℕ)) (name : List ℕ) → files name ≡ None → queue_with_value files queue name ≡ queue
not_new files queue name none = go (is_name name) (not (is_in name queue)) (is_some (files name)) (rw none refl)
  where
    go : (a b c : Bool) → c ≡ false → (if a && (b && c) then queue ++ name ∷ [] else queue) ≡ queue
    go true true c e = rw e refl
    go true false c e = refl
    go false b c e = refl

pub not_named : (files : Files) (queue : List (List ℕ)) (name : List ℕ) → is_name name ≡ false → queue_with_value files queue name ≡ queue
not_named files queue name e = rw e refl

pub in_queue : (files : Files) (queue : List (List ℕ)) (name : List ℕ) → is_in name queue ≡ true → queue_with_value files queue name ≡ queue
in_queue files queue name e = go (is_name name) (is_in name queue) (is_some (files name)) e
  where
    go : (a b c : Bool) → b ≡ true → (if a && (not b && c) then queue ++ name ∷ [] else queue) ≡ queue
    go true b c e = rw e refl
    go false b c e = refl

is_new : (files : Files) (queue : List (List ℕ)) (name : List ℕ) → is_name name ≡ true → is_in name queue ≡ false → is_some (files name) ≡ true → queue_with_value files queue name ≡ queue ++ name ∷ []
is_new files queue name named out there = rw (named, out, there) refl

found_some : (bytes : List ℕ) (file : Option (List ℕ)) → IsFoundOf (Some bytes) file → is_some file ≡ true
found_some bytes None (inl e) = absurd cc
found_some bytes None (inr e) = absurd cc
found_some bytes (Some whole) h = refl

found_none : (file : Option (List ℕ)) → IsFoundOf None file → file ≡ None
found_none None h = refl
found_none (Some whole) (inl e) = absurd cc
found_none (Some whole) (inr e) = absurd cc

-- a name that is not in the queue is not among the words
no_word : (name : List ℕ) (queue read words more : List (List ℕ)) → queue ≡ read ++ (words ++ more) → is_in name queue ≡ false → is_in name words ≡ false
no_word name queue read words more e out =
    let all : (is_in name read || is_in name (words ++ more)) ≡ false = sym (list_any-append (bytes_eq name) read (words ++ more)) ∙ sym (ap (is_in name) e) ∙ out in
    let rest : (is_in name words || is_in name more) ≡ false = sym (list_any-append (bytes_eq name) words more) ∙ (or_parts (is_in name read) (is_in name (words ++ more)) all).1 in
    (or_parts (is_in name words) (is_in name more) rest).0

names_push : (waiting : List SheetFileData) (sheet : SheetFileData) → map (λ (s : SheetFileData). s.name) (waiting ++ sheet ∷ []) ≡ map (λ (s : SheetFileData). s.name) waiting ++ sheet.name ∷ []
names_push [] sheet = refl
names_push (w ∷ waiting) sheet = ap (λ (names : List (List ℕ)). w.name ∷ names) (names_push waiting sheet)

module _ (files : Option Files) (before : AskedData) (name : List ℕ) (named : is_name name ≡ true) (out : is_in name before.queue ≡ false) (no_absent : is_in name before.absent ≡ false) where
  not_asked : (read words : List (List ℕ)) (old : ProjectFiles) → IsAsked (at before read words old) name → ⊥
  not_asked read words old (inl absent) = true≢false (sym absent ∙ no_absent)
  not_asked read words old (inr (queued, unread)) = true≢false (sym queued ∙ out)

  pub sheet_leads : (bytes : List ℕ) → OfSome files (λ known. IsFoundOf (Some bytes) (known name)) → Leads files before (and_sheet before name bytes) (λ known. AsksValues before (name ∷ []) known (Ok (and_sheet before name bytes)))
  sheet_leads bytes from told kept read words old fits =
      let p = at before read words old in
      let more = more_sheets told files p name (IsFoundOf (Some bytes)) kept fits.as_told from (not_asked read words old) in
      let now = at (and_sheet before name bytes) read words more.0 in
      let sheet : SheetFileData = record { name = name; bytes = bytes } in
      let here : IsAsked now name = inr (last_true (bytes_eq name) before.queue name (bytes_true name name refl), no_word name before.queue read words (map (λ (s : SheetFileData). s.name) before.waiting) fits.queue out) in
      let asks : (q : List ℕ) → IsAsked p q → IsAsked now q = still_asked (read) (words) (old) more.0 in
      let follows : Follows p now = record {
        sheets = λ q asked. (asks q asked, (more.3.sheets q asked).1);
        symbols = λ q asked. (asked, (more.3.symbols q asked).1);
      } in (
        more.0,
        record {
          follows = follows;
          fits = record {
            as_told = more.1;
            queue = ap (λ (names : List (List ℕ)). names ++ name ∷ []) fits.queue
                ∙ append_assoc read (words ++ map (λ (s : SheetFileData). s.name) before.waiting) (name ∷ [])
                ∙ ap (λ (names : List (List ℕ)). read ++ names) (append_assoc words (map (λ (s : SheetFileData). s.name) before.waiting) (name ∷ [])
                ∙ ap (λ (names : List (List ℕ)). words ++ names) (sym (names_push before.waiting sheet)));
            waiting = All-push (IsWaiting now) before.waiting sheet (λ k d lt. waits_on p now (get_or before.waiting k d) follows (fits.waiting k d lt)) (here, more.2);
            absent = λ q asked. (more.3.sheets q (inl asked)).1 ∙ fits.absent q asked;
            apart = λ q asked. still_false (bytes_eq q) before.queue name (fits.apart q asked) (bytes_false q name (λ same. true≢false (sym asked ∙ subst (λ (n : List ℕ). is_in n before.absent ≡ false) (sym same) no_absent)));
          };
          holds = λ known f.
              (sym (is_new known.sheets before.queue name named out (ap is_some (f.sheets name here).1 ∙ found_some bytes (more.0.sheets name) more.2)), refl);
        },
      )
    where
      still_asked : (read words : List (List ℕ)) (old new : ProjectFiles) (q : List ℕ) → IsAsked (at before read words old) q → IsAsked (at (and_sheet before name bytes) read words new) q
      still_asked read words old new q (inl absent) = inl absent
      still_asked read words old new q (inr (queued, unread)) = inr (still_true (bytes_eq q) before.queue (name ∷ []) queued, unread)

  pub absent_leads : OfSome files (λ known. IsFoundOf None (known name)) → Leads files before (and_absent before name) (λ known. AsksValues before (name ∷ []) known (Ok (and_absent before name)))
  absent_leads from told kept read words old fits =
      let p = at before read words old in
      let more = more_sheets told files p name (IsFoundOf None) kept fits.as_told from (not_asked read words old) in
      let now = at (and_absent before name) read words more.0 in
      let none : more.0.sheets name ≡ None = found_none (more.0.sheets name) more.2 in
      let here : IsAsked now name = inl (last_true (bytes_eq name) before.absent name (bytes_true name name refl)) in
      let asks : (q : List ℕ) → IsAsked p q → IsAsked now q = still_asked read words old more.0 in
      let follows : Follows p now = record {
        sheets = λ q asked. (asks q asked, (more.3.sheets q asked).1);
        symbols = λ q asked. (asked, (more.3.symbols q asked).1);
      } in (
        more.0,
        record {
          follows = follows;
          fits = record {
            as_told = more.1;
            queue = fits.queue;
            waiting = λ k d lt. waits_on p now (get_or before.waiting k d) follows (fits.waiting k d lt);
            absent = λ q asked. is_none q more.0 (λ there. (more.3.sheets q (inl there)).1 ∙ fits.absent q there) none (in_last q name before.absent asked);
            apart = λ q asked. is_out q (fits.apart q) (in_last q name before.absent asked);
          };
          holds = λ known f.
              (sym (not_new known.sheets before.queue name ((f.sheets name here).1 ∙ none)), refl);
        },
      )
    where
      still_asked : (read words : List (List ℕ)) (old new : ProjectFiles) (q : List ℕ) → IsAsked (at before read words old) q → IsAsked (at (and_absent before name) read words new) q
      still_asked read words old new q (inl absent) = inl (still_true (bytes_eq q) before.absent (name ∷ []) absent)
      still_asked read words old new q (inr queued) = inr queued

      is_none : (q : List ℕ) (new : ProjectFiles) → (is_in q before.absent ≡ true → new.sheets q ≡ None) → new.sheets name ≡ None → (is_in q before.absent ≡ true) ⊎ (q ≡ name) → new.sheets q ≡ None
      is_none q new others none (inl there) = others there
      is_none q new others none (inr same) = ap new.sheets same ∙ none

      is_out : (q : List ℕ) → (is_in q before.absent ≡ true → is_in q before.queue ≡ false) → (is_in q before.absent ≡ true) ⊎ (q ≡ name) → is_in q before.queue ≡ false
      is_out q others (inl there) = others there
      is_out q others (inr same) = subst (λ (n : List ℕ). is_in n before.queue ≡ false) (sym same) out

-- the symbols of a map

pub lookup_asked : (name : List ℕ) (symbols : List AskedSymbol) → is_some (lookup (bytes_eq name) symbols) ≡ is_asked_symbol name symbols
lookup_asked name [] = refl
lookup_asked name (s ∷ symbols) = go (bytes_eq name s.0) (lookup_asked name symbols)
  where
    go : (b : Bool) → is_some (lookup (bytes_eq name) symbols) ≡ is_asked_symbol name symbols → is_some (cond b (Some s.1) (lookup (bytes_eq name) symbols)) ≡ (b || is_asked_symbol name symbols)
    go true e = refl
    go false e = e

pub lookup_symbol : (name : List ℕ) (symbols : List AskedSymbol) → option_and_then (λ (s : Option SymbolData). s) (lookup (bytes_eq name) symbols) ≡ symbol_of symbols (Some name)
lookup_symbol name [] = refl
lookup_symbol name (s ∷ symbols) = go (bytes_eq name s.0) (lookup_symbol name symbols)
  where
    go : (b : Bool) → option_and_then (λ (s : Option SymbolData). s) (lookup (bytes_eq name) symbols) ≡ symbol_of symbols (Some name) → option_and_then (λ (s : Option SymbolData). s) (cond b (Some s.1) (lookup (bytes_eq name) symbols)) ≡ option_and_then (λ (asked : AskedSymbol). asked.1) (cond b (Some s) (find (has_file_name name) symbols))
    go true e = refl
    go false e = e

pub is_none : {X : Type 0} (o : Option X) → is_some o ≡ false → o ≡ None
is_none None e = refl
is_none (Some x) e = absurd (true≢false e)

-- a name passes the test of one
name_passes : (name : List ℕ) → IsName name → is_name name ≡ true
name_passes name h =
    let filled = le-leb 1 (length name) h.filled in
    let short = le-leb (length name) most_name_bytes h.short in
    let first = ne_eqb (slice_index name 0) 46 h.first in
    rw (filled, short, first, h.name_bytes) refl

-- a symbol that was asked for before
pub symbol_known : (before : AskedData) (name : List ℕ) → is_asked_symbol name before.symbols ≡ true → (known : ProjectFiles) → AsksSymbol before (Some name) known (Ok before)
symbol_known before name asked known sheets = subst (λ (b : Bool). SymbolUnless b known.symbols (gathered sheets before) name (Ok (gathered sheets before))) (sym asked) refl

-- a symbol that is found under a text: the text is a name
named_text : (text : List ℕ) → is_name text ≡ true → named_symbol text None ≡ Some text
named_text text e = rw e refl

pub found_known : (symbols : List AskedSymbol) (text name : List ℕ) (symbol : Option SymbolData) → lookup_key (bytes_eq text) symbols ≡ Some name → IsName name → lookup (bytes_eq text) symbols ≡ Some symbol → IsKnown symbols (named_symbol text None) symbol
found_known symbols text name symbol key suits found =
    let same : text ≡ name = bytes_same text name (lookup_key_passes (bytes_eq text) symbols name key) in
    let named : is_name text ≡ true = name_passes text (subst IsName (sym same) suits) in
    subst (λ (n : Option (List ℕ)). IsKnown symbols n symbol) (sym (named_text text named)) (record {
      known = sym (lookup_asked text symbols) ∙ ap is_some found;
      found = sym (ap (option_and_then (λ (s : Option SymbolData). s)) found) ∙ lookup_symbol text symbols;
    })

-- what was read of a file, of the files of a folder
pub found_in : {E : Type 0} (files : Option Files) (name asked : List ℕ) (view : Vec ℕ Global → List ℕ) (found : Option (Vec ℕ Global)) (result : Result (Option (Vec ℕ Global)) E) → asked ≡ name → result ≡ Ok found → ReadsFile files asked view result → OfSome files (λ known. IsFoundOf (found_bytes view found) (known name))
found_in {E = E} files name asked view found result is_name is h =
    go files (subst (λ (r : Result (Option (Vec ℕ Global)) E). ReadsFile files name view r) is (subst (λ (n : List ℕ). ReadsFile files n view result) is_name h))
  where
    go : (fs : Option Files) → ReadsFile {E = E} fs name view (Ok found) → OfSome fs (λ known. IsFoundOf (found_bytes view found) (known name))
    go None h = ((λ (other : List ℕ). found_bytes view found), inl refl)
    go (Some known) h = inr (sym h)

-- a fault of a value: none but those of the folder and of memory
pub no_fault : (before : AskedData) (values : List (List ℕ)) (known : ProjectFiles) (fault : FileFault) → AsksValues before values known (Err fault) → ⊥
no_fault before values known fault h = h

-- a value for which nothing is asked
module _ (files : Option Files) (before : AskedData) (value : List ℕ) where
  abbrev pub Skips : Type 0
  Skips = Leads files before before (λ known. AsksValues before (value ∷ []) known (Ok before))

  pub skips_text : is_name value ≡ false → Skips
  skips_text e = leads_self files before (λ known. AsksValues before (value ∷ []) known (Ok before)) (λ known. (sym (not_named known.sheets before.queue value e), refl))

  pub skips_queued : is_in value before.queue ≡ true → Skips
  skips_queued e = leads_self files before (λ known. AsksValues before (value ∷ []) known (Ok before)) (λ known. (sym (in_queue known.sheets before.queue value e), refl))

  pub skips_absent : is_in value before.absent ≡ true → Skips
  skips_absent e = leads_known files before (λ known. AsksValues before (value ∷ []) known (Ok before))
      (λ told read words old known fits f. (sym (not_new known.sheets before.queue value ((f.sheets value (inl e)).1 ∙ fits.absent value e)), refl))

-- the name that a value is, if it is one
pub named_value : (value name : List ℕ) → Some name ≡ (if is_name value then Some value else None) → (name ≡ value) × (is_name value ≡ true)
named_value value name h = go (is_name value) refl h
  where
    go : (b : Bool) → is_name value ≡ b → Some name ≡ (if b then Some value else None) → (name ≡ value) × (is_name value ≡ true)
    go true e h = (cc, e)
    go false e h = absurd cc

-- values one after the other
pub more_values : (before mid now : AskedData) (values left : List (List ℕ)) (value : List ℕ) (known : ProjectFiles) → LeavesValues before values mid (value ∷ left) known → AsksValues mid (value ∷ []) known (Ok now) → LeavesValues before values now left known
more_values before mid now values left value known first next =
    (ap (λ (queue : List (List ℕ)). fold (queue_with_value known.sheets) queue left) next.0 ∙ first.0, next.1 ∙ first.1)

pub pushed_key : (names : List (List ℕ)) (name : List ℕ) → is_in name names ≡ false → insert_key bytes_eq names name ≡ names ++ name ∷ []
pushed_key names name e = rw e refl

-- components and objects

pub component_fault : (before : AskedData) (object : ObjectData) (known : ProjectFiles) (fault : FileFault) → AsksSymbol before (asked_symbol object) known (Err fault) → AsksComponent before object known (Err fault)
component_fault before object known fault h sheets = (Err fault, h sheets, refl)

pub component_then : (before mid : AskedData) (object : ObjectData) (values : List (List ℕ)) (known : ProjectFiles) (outcome : Result AskedData FileFault) → values ≡ sources_of object (symbol_of mid.symbols (asked_symbol object)) → AsksSymbol before (asked_symbol object) known (Ok mid) → AsksValues mid values known outcome → AsksComponent before object known outcome
component_then before mid object values known (Err fault) is first next = absurd next
component_then before mid object values known (Ok now) is first next = λ sheets.
    let queue : now.queue ≡ fold (queue_with_value known.sheets) mid.queue (sources_of object (symbol_of mid.symbols (asked_symbol object))) = next.0 ∙ ap (fold (queue_with_value known.sheets) mid.queue) is in
    let symbols = next.1 in
    (Ok (gathered sheets mid), first sheets, λ i. Ok (record { queue = queue i; sheets = sheets; symbols = symbols i }))

symbol_there : (before : AskedData) (name : Option (List ℕ)) → is_known before.symbols name ≡ true → (known : ProjectFiles) → AsksSymbol before name known (Ok before)
symbol_there before None e known = λ sheets. refl
symbol_there before (Some name) e known = symbol_known before name e known

pub nothing_asked : (before : AskedData) (object : ObjectData) → AsksNothing before object → (known : ProjectFiles) → AsksComponent before object known (Ok before)
nothing_asked before object h known =
    component_then before before object [] known (Ok before) (sym h.sheets) (symbol_there before (asked_symbol object) h.symbol known) (refl, refl)

no_values : (values : List (List ℕ)) → slice_get values 0 ≡ None → values ≡ []
no_values [] e = refl
no_values (v ∷ values) e = absurd cc

-- no `source`, no sheets
pub no_sources : (o : ObjectData) (library : Option SymbolData) → attr o library (codes "source") ≡ None → sources_of o library ≡ []
unfolding attr
no_sources o library none = go (is_annotation o library) (no_values (attrs o library (codes "source")) none)
  where
    go : (b : Bool) → attrs o library (codes "source") ≡ [] → (if b then [] else attrs o library (codes "source")) ≡ []
    go true e = refl
    go false e = e

named_component : (o : ObjectData) (c : ComponentData) (library : Option SymbolData) → o.body ≡ bodies.Component c → named_sheets o library ≡ sources_of o library
named_component o c library e = rw e refl

named_shape : (o : ObjectData) (s : Shape) (library : Option SymbolData) → o.body ≡ bodies.Shape s → named_sheets o library ≡ []
named_shape o s library e = rw e refl

asked_shape : (o : ObjectData) (s : Shape) → o.body ≡ bodies.Shape s → asked_symbol o ≡ None
asked_shape o s e = rw e refl

pub object_of_component : (before : AskedData) (o : ObjectData) (c : ComponentData) (known : ProjectFiles) (outcome : Result AskedData FileFault) → o.body ≡ bodies.Component c → AsksComponent before o known outcome → AsksObject before o known outcome
object_of_component before o c known outcome is h sheets =
    let a = h sheets in
    (a.0, a.1, go a.0 a.2)
  where
    go : (read : Result Gathered FileFault) → Then read (λ k end. end ≡ Ok (with_values known.sheets (component_values o k) k)) (with_view (gathered sheets) outcome) → Then read (λ k end. end ≡ Ok (with_sources known.sheets o k)) (with_view (gathered sheets) outcome)
    go (Err fault) e = e
    go (Ok k) e = e ∙ ap (λ (values : List (List ℕ)). Ok (with_values known.sheets values k)) (sym (named_component o c (library_read k o) is))

pub object_of_shape : (before : AskedData) (o : ObjectData) (s : Shape) → o.body ≡ bodies.Shape s → (known : ProjectFiles) → AsksObject before o known (Ok before)
object_of_shape before o s is known sheets =
    let g = gathered sheets before in (
      Ok g,
      subst (λ (name : Option (List ℕ)). SymbolComesTo known.symbols g name (Ok g)) (sym (asked_shape o s is)) refl,
      ap (λ (values : List (List ℕ)). Ok (with_values known.sheets values g)) (sym (named_shape o s (library_read g o) is)),
    )

-- objects one after the other
pub more_objects : (before mid now : AskedData) (objects left : List ObjectData) (object : ObjectData) (known : ProjectFiles) → LeavesObjects before objects mid (object ∷ left) known → AsksObject mid object known (Ok now) → LeavesObjects before objects now left known
more_objects before mid now objects left object known first next sheets outcome rest = first sheets outcome (Ok (gathered sheets now), next sheets, rest)

pub objects_fault : (before mid : AskedData) (objects left : List ObjectData) (object : ObjectData) (known : ProjectFiles) (fault : FileFault) → LeavesObjects before objects mid (object ∷ left) known → AsksObject mid object known (Err fault) → AsksObjects before objects known (Err fault)
objects_fault before mid objects left object known fault first next sheets = first sheets (Err fault) (Err fault, next sheets, refl)

pub objects_done : (before now : AskedData) (objects : List ObjectData) (known : ProjectFiles) → LeavesObjects before objects now [] known → AsksObjects before objects known (Ok now)
objects_done before now objects known first sheets = first sheets (Ok (gathered sheets now)) refl

-- what a call leads to, said otherwise
pub asks_as : (files : Option Files) (before : AskedData) (P Q : ProjectFiles → Result AskedData FileFault → Type 0) (outcome : Result AskedData FileFault) → ((known : ProjectFiles) → P known outcome → Q known outcome) → Asks files before P outcome → Asks files before Q outcome
asks_as files before P Q outcome as_well h =
    asks_then files files before before (λ known. Unit {0}) P Q outcome (leads_self files before (λ known. Unit {0}) (λ known. tt)) (stays files) (λ known u p. as_well known p) h
