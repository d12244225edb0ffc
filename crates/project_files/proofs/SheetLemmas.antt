-- Sheets that are read one after the other.
use Rattle.std.proofs.Common.{◌≡◌, ◌≢◌, ℕ, zero, suc, ◌+◌, ◌<◌, length, take, drop, drop-cons, length-take-le, Bool, true, false, true≢false, ◌||◌, List, [], ◌∷◌, ◌++◌, Option, Some, None, Result, Ok, Err, get_or, map, inl, inr, refl, sym, ap, subst, ◌∙◌, arith}
use Rattle.std.specs.declared.option.Option.{Option}
use Rattle.std.specs.Str.{bytes_eq}
use Rattle.std.specs.List.{AllPairs, IsDistinct, slice_get}
use Rattle.std.specs.Map.{keys_of}
use Rattle.std.proofs.lemmas.List.{append-nil, append_assoc, get_or-drop, get_or-take, get_or_default, length-append, length-drop, take_more}
use Rattle.std.proofs.lemmas.List.Folds.{list_any-append, list_any_none}
use Rattle.std.proofs.lemmas.Map.Entries.{length-keys_of}
use Rattle.std.proofs.lemmas.Map.Made.{AllPairs-from_IsDistinct}
use Rattle.std.proofs.lemmas.Slice.Eq.{bytes_eq-Decides}
use Rattle.std.proofs.lemmas.Option.{slice_get_past}
use Rattle.std.proofs.lemmas.Bool.{or_parts}
use Rattle.geda_defs.proofs.Bytes.{bytes_false, bytes_true}
use Rattle.geda_defs.specs.Contents.{Files, KeepsFiles}
use Rattle.geda_model.specs.Sheets.{SheetData}
use Rattle.geda_grammar.specs.Spelling.{Spells}
use Rattle.geda_grammar.specs.Faults.{sheet_file}
use Rattle.project_files.specs.declared.fault.FileFault.{FileFault}
use Rattle.project_files.specs.declared.fault.FileFault.TheVariants as faults
use Rattle.project_files.specs.Gathering.{AskedSymbol, Gathered, ProjectFiles, unread}
use Rattle.project_files.specs.FileReads.{FileComesTo, WasRead, ReadAs}
use Rattle.project_files.specs.ProjectFiles.{SheetComesTo, SheetsComeTo, OfFiles}
use Rattle.project_files.specs.steps.Standing.{ReadsFrom, Continues, IsStart, StandsAt}
use Rattle.project_files.specs.steps.Reading.{SheetFrom, SheetOf}
use Rattle.project_files.specs.steps.Progress.{AreTold, AskedData, Fits, Follows, IsAsked, IsFoundOf, IsWaiting, Leads, LeadsOut, Progress, SheetFileData, TakesNext, at, gathered, is_in, with_files, with_waiting}
use Rattle.project_files.specs.steps.Asking.{AsksObjects}
use Rattle.project_files.proofs.AskingLemmas.{follows_back, follows_self, more_sheets, waits_on}
use Rattle.project_files.proofs.Reading.{HoldsOfWhole, sheet_whole}

-- the file of a sheet, and what its objects come to

sheet_comes : (files : ProjectFiles) (g : Gathered) (name : List ℕ) (sheet : SheetData)
    (outcome : Result Gathered FileFault) (file : Option (List ℕ)) →
    SheetOf name file (Ok sheet) → SheetComesTo files g sheet outcome →
    FileComesTo (faults.Missing name) (ReadAs sheet_file (faults.Refused name) (SheetComesTo files g)) file outcome
sheet_comes files g name sheet outcome None h comes = absurd cc
sheet_comes files g name sheet outcome (Some bytes) (inl (value, spelled, is)) comes =
    let e : value ≡ sheet = cc in
    inl (sheet, subst (λ (v : SheetData). Spells sheet_file.Spell bytes v) e spelled, comes)
sheet_comes files g name sheet outcome (Some bytes) (inr (line, kind, fault, is)) comes = absurd cc

sheet_refused : (files : ProjectFiles) (g : Gathered) (name : List ℕ) (fault : FileFault) (file : Option (List ℕ)) →
    SheetOf name file (Err fault) →
    FileComesTo (faults.Missing name) (ReadAs sheet_file (faults.Refused name) (SheetComesTo files g)) file (Err fault)
sheet_refused files g name fault None h = let e : fault ≡ faults.Missing name = cc in ap Err e
sheet_refused files g name fault (Some bytes) (inl (value, spelled, is)) = absurd cc
sheet_refused files g name fault (Some bytes) (inr (line, kind, has, is)) =
    inr (line, kind, has, (let e : fault ≡ faults.Refused name line kind = cc in ap Err e))

-- what holds of files that are told holds of those of the folder
of_told : (told : Option Files) (known : ProjectFiles) (P : ProjectFiles → Type 0) → AreTold told known → P known → OfFiles told P
of_told None known P is p = (known, p)
of_told (Some files) known P is p = subst P is p

-- the turn of a sheet: its file comes to a sheet or a fault, and the rest decides what all comes to
pub record Turn (told : Option Files) (names : List (List ℕ)) (sheets : List SheetData) (now : Progress)
    (name : List ℕ) (read : Result SheetData FileFault) : Type 0 where
  pub fits : Fits told now
  pub count : length now.read ≡ suc (length sheets)
  pub next : slice_get now.asked.queue (length sheets) ≡ Some name
  pub asked : IsAsked now name
  pub file : SheetOf name (now.files.sheets name) read
  pub rest : (files : ProjectFiles) → Follows now (with_files now files) → Continues names (gathered sheets now.asked) files

-- the same, with some files that are as those that were read
pub record TurnAt (told : Option Files) (names : List (List ℕ)) (sheets : List SheetData)
    (asked : AskedData) (read words : List (List ℕ)) (name : List ℕ) (result : Result SheetData FileFault) : Type 0 where
  pub files : ProjectFiles
  pub turn : Turn told names sheets (at asked read words files) name result

-- the file is refused, or there is none
pub turn_fault : {told : Option Files} {names : List (List ℕ)} {sheets : List SheetData} {asked : AskedData}
    {read words : List (List ℕ)} {name : List ℕ} {fault : FileFault} →
    TurnAt told names sheets asked read words name (Err fault) → ReadsFrom told names (Err fault)
turn_fault {told = told} {names = names} {sheets = sheets} {asked = asked} {read = read} {words = words} {name = name} {fault = fault} at_turn =
    let now = at asked read words at_turn.files in
    let turn = at_turn.turn in
    of_told told now.files (λ (files : ProjectFiles). (count : ℕ) × SheetsComeTo files count (unread names) (Err fault)) turn.fits.as_told
    (turn.rest now.files (follows_self now) 1 (Err fault)
    (name, turn.next, (Err fault, sheet_refused now.files (gathered sheets now.asked) name fault (now.files.sheets name) turn.file, refl)))

module _ {told : Option Files} {names : List (List ℕ)} {sheets : List SheetData} {asked : AskedData}
    {read words : List (List ℕ)} {name : List ℕ} {sheet : SheetData} {now : Option Files}
    (at_turn : TurnAt told names sheets asked read words name (Ok sheet)) (kept : KeepsFiles told now) where
  -- its objects meet a fault
  pub turn_ends : (fault : FileFault) →
      LeadsOut now asked (λ files. AsksObjects asked sheet.objects files (Err fault)) → ReadsFrom told names (Err fault)
  turn_ends fault out =
      let known = at_turn.files in
      let turn = at_turn.turn in
      let last = out told kept read words known turn.fits in
      let files = last.0 in
      let same : files.sheets name ≡ known.sheets name = (last.1.follows.sheets name turn.asked).1 in
      let g = gathered sheets asked in
      of_told told files (λ (fs : ProjectFiles). (count : ℕ) × SheetsComeTo fs count (unread names) (Err fault)) last.1.as_told
      (turn.rest files last.1.follows 1 (Err fault) (
        name,
        turn.next,
        (
          Err fault,
          sheet_comes files g name sheet (Err fault) (files.sheets name)
              (subst (λ (file : Option (List ℕ)). SheetOf name file (Ok sheet)) (sym same) turn.file) (last.1.holds (sheets ++ sheet ∷ [])),
          refl,
        ),
      ))

  -- what its objects need is asked for, and the sheet is put behind those that are read
  pub turn_passes : (new : AskedData) (all : List SheetData) →
      Leads now asked new (λ files. AsksObjects asked sheet.objects files (Ok new)) → all ≡ sheets ++ sheet ∷ [] →
      StandsAt told names read words new all
  turn_passes new all leads behind = subst (λ (ss : List SheetData). StandsAt told names read words new ss) (sym behind) passed
    where
      passed : StandsAt told names read words new (sheets ++ sheet ∷ [])
      passed =
          let known = at_turn.files in
          let turn = at_turn.turn in
          let p = at asked read words known in
          let next = leads told kept read words known turn.fits in
          let q = at new read words next.0 in
          record {
            files = next.0;
            stands = record {
              fits = next.1.fits;
              count = turn.count ∙ sym (length-append sheets (sheet ∷ []) ∙ (omega arith));
              rest = λ files f count outcome comes.
                  let back = follows_back p q files next.1.follows f in
                  let same : files.sheets name ≡ known.sheets name = (back.sheets name turn.asked).1 in
                  let g = gathered sheets asked in
                  let more = gathered (sheets ++ sheet ∷ []) new in
                  turn.rest files back (suc count) outcome (
                    name,
                    turn.next,
                    (
                      Ok more,
                      sheet_comes files g name sheet (Ok more) (files.sheets name)
                          (subst (λ (file : Option (List ℕ)). SheetOf name file (Ok sheet)) (sym same) turn.file)
                          (next.1.holds files f (sheets ++ sheet ∷ [])),
                      comes,
                    ),
                  );
            };
          }

-- the name at a place, behind so many others
name_at : (read : List (List ℕ)) (name : List ℕ) (more : List (List ℕ)) → slice_get (read ++ name ∷ more) (length read) ≡ Some name
name_at [] name more = refl
name_at (r ∷ read) name more = name_at read name more

next_at : (read : List (List ℕ)) (name : List ℕ) (more queue : List (List ℕ)) (sheets : List SheetData) →
    queue ≡ read ++ name ∷ more → length read ≡ length sheets → slice_get queue (length sheets) ≡ Some name
next_at read name more queue sheets is count =
    ap (λ (q : List (List ℕ)). slice_get q (length sheets)) is ∙ ap (slice_get (read ++ name ∷ more)) (sym count) ∙ name_at read name more

queued : (read : List (List ℕ)) (name : List ℕ) (more queue : List (List ℕ)) → queue ≡ read ++ name ∷ more → is_in name queue ≡ true
queued read name more queue is =
    ap (is_in name) is ∙ list_any-append (bytes_eq name) read (name ∷ more) ∙ go (is_in name read)
  where
    go : (b : Bool) → (b || (bytes_eq name name || is_in name more)) ≡ true
    go true = refl
    go false = rw (bytes_true name name refl) refl

one_more : (read : List (List ℕ)) (name : List ℕ) (n : ℕ) → length read ≡ n → length (read ++ name ∷ []) ≡ suc n
one_more read name n e = length-append read (name ∷ []) ∙ omega (arith, e)

-- names that stand once

not_in : (name : List ℕ) (names : List (List ℕ)) → ((k : ℕ) (d : List ℕ) → k < length names → name ≡ get_or names k d → ⊥) →
    is_in name names ≡ false
not_in name names apart = list_any_none (bytes_eq name) names (λ k d lt. bytes_false name (get_or names k d) (apart k d lt))

-- a name is not among those before it, and not among those behind it
pub once_before : (names : List (List ℕ)) (i : ℕ) (name : List ℕ) →
    AllPairs ◌≢◌ names → i < length names → name ≡ get_or names i name → is_in name (take i names) ≡ false
once_before names i name apart h is =
    not_in name (take i names)
    (λ k d lt same. apart k i name (omega (arith, length-take-le i names)) h (earlier k d lt ∙ sym same ∙ is))
  where
    earlier : (k : ℕ) (d : List ℕ) → k < length (take i names) → get_or names k name ≡ get_or (take i names) k d
    earlier k d lt =
        sym (get_or-take i names k d (omega (arith, length-take-le i names))
        ∙ get_or_default names k d name (omega (arith, length-take-le i names, h)))

once_behind : (names : List (List ℕ)) (i : ℕ) (name : List ℕ) →
    AllPairs ◌≢◌ names → i < length names → name ≡ get_or names i name → is_in name (drop (i + 1) names) ≡ false
once_behind names i name apart h is =
    not_in name (drop (i + 1) names)
    (λ k d lt same. apart i (i + 1 + k) d (omega arith) (later k lt)
    (sym (is ∙ get_or_default names i name d h) ∙ same ∙ get_or-drop (i + 1) names k d))
  where
    later : (k : ℕ) → k < length (drop (i + 1) names) → i + 1 + k < length names
    later k lt = omega (arith, lt, length-drop (i + 1) names)

-- a word, whose file is read now
module _ {told : Option Files} {names : List (List ℕ)} {asked : AskedData} {sheets : List SheetData} where
  turn_of_word : (now : Option Files) (read words : List (List ℕ)) (name : List ℕ) (result : Result SheetData FileFault) →
      StandsAt told names read (name ∷ words) asked sheets → KeepsFiles told now → is_in name words ≡ false →
      SheetFrom now name result → TurnAt told names sheets asked (read ++ name ∷ []) words name result
  turn_of_word now read words name result at_stand kept once from =
      let p = at asked read (name ∷ words) at_stand.files in
      let s = at_stand.stands in
      let names_waiting = map (λ (w : SheetFileData). w.name) asked.waiting in
      let there : is_in name asked.queue ≡ true = queued read name (words ++ names_waiting) asked.queue s.fits.queue in
      let more = more_sheets told now p name (λ (file : Option (List ℕ)). SheetOf name file result)
      kept s.fits.as_told from (fresh there s.fits.apart) in
      let q = at asked (read ++ name ∷ []) words more.0 in
      let follows : Follows p q = record {
        sheets = λ n is. (asks more.0 n is, (more.3.sheets n is).1);
        symbols = λ n is. (is, (more.3.symbols n is).1);
      } in
      record {
        files = more.0;
        turn = record {
          fits = record {
            as_told = more.1;
            queue = s.fits.queue ∙ sym (append_assoc read (name ∷ []) (words ++ names_waiting));
            waiting = λ k d lt. waits_on p q (get_or asked.waiting k d) follows (s.fits.waiting k d lt);
            absent = λ n is. (more.3.sheets n (inl is)).1 ∙ s.fits.absent n is;
            apart = s.fits.apart;
          };
          count = one_more read name (length sheets) s.count;
          next = next_at read name (words ++ names_waiting) asked.queue sheets s.fits.queue s.count;
          asked = inr (there, once);
          file = more.2;
          rest = λ files f. s.rest files (follows_back p q files follows f);
        };
      }
    where
      fresh : is_in name asked.queue ≡ true → ((n : List ℕ) → is_in n asked.absent ≡ true → is_in n asked.queue ≡ false) →
          IsAsked (at asked read (name ∷ words) at_stand.files) name → ⊥
      fresh there apart (inl absent) = true≢false (sym there ∙ apart name absent)
      fresh there apart (inr (here, left)) =
          true≢false (sym (bytes_true name name refl) ∙ (or_parts (bytes_eq name name) (is_in name words) left).0)

      asks : (files : ProjectFiles) (n : List ℕ) → IsAsked (at asked read (name ∷ words) at_stand.files) n →
          IsAsked (at asked (read ++ name ∷ []) words files) n
      asks files n (inl absent) = inl absent
      asks files n (inr (here, left)) = inr (here, (or_parts (bytes_eq n name) (is_in n words) left).1)

  -- the word at a place, where all before it are read
  pub word_turn : {i : ℕ} {name : List ℕ} (now : Option Files) (result : Result SheetData FileFault) →
      AllPairs ◌≢◌ names → i < length names → name ≡ get_or names i name →
      StandsAt told names (take i names) (drop i names) asked sheets → KeepsFiles told now → SheetFrom now name result →
      TurnAt told names sheets asked (take (i + 1) names) (drop (i + 1) names) name result
  word_turn {i = i} {name = name} now result apart within is at_stand kept from =
      let next : suc i ≡ i + 1 = omega arith in
      let left : drop i names ≡ name ∷ drop (i + 1) names =
      drop-cons names i name within
      ∙ ap (λ (n : List ℕ). n ∷ drop (suc i) names) (sym is)
      ∙ ap (λ (k : ℕ). name ∷ drop k names) next in
      let upto : take i names ++ name ∷ [] ≡ take (i + 1) names =
      ap (λ (n : List ℕ). take i names ++ n ∷ []) is ∙ sym (take_more names i name within) in
      let here = subst (λ (words : List (List ℕ)). StandsAt told names (take i names) words asked sheets) left at_stand in
      subst (λ (read : List (List ℕ)). TurnAt told names sheets asked read (drop (i + 1) names) name result) upto
      (turn_of_word now (take i names) (drop (i + 1) names) name result here kept (once_behind names i name apart within is) from)

found_holds : (P : Option (List ℕ) → Type 0) (bytes : List ℕ) (file : Option (List ℕ)) → HoldsOfWhole P → P (Some bytes) → IsFoundOf (Some bytes) file → P file
found_holds P bytes file whole p (inl is) = subst P (sym is) p
found_holds P bytes file whole p (inr is) = whole file (subst P (sym is) p)

-- a sheet that a component named, whose file is the first that waits
module _ {told : Option Files} {names read : List (List ℕ)} {sheets : List SheetData} where
  turn_of_found : (asked : AskedData) (file : SheetFileData) (result : Result SheetData FileFault) →
      StandsAt told names read [] (with_waiting asked (file ∷ asked.waiting)) sheets → SheetOf file.name (Some file.bytes) result →
      TurnAt told names sheets asked (read ++ file.name ∷ []) [] file.name result
  turn_of_found asked file result at_stand comes =
      let known = at_stand.files in
      let s = at_stand.stands in
      let names_waiting = map (λ (w : SheetFileData). w.name) asked.waiting in
      let first : IsWaiting (at (with_waiting asked (file ∷ asked.waiting)) read [] known) file = s.fits.waiting 0 file (omega arith) in
      record {
        files = known;
        turn = record {
          fits = record {
            as_told = s.fits.as_told;
            queue = s.fits.queue ∙ sym (append_assoc read (file.name ∷ []) names_waiting);
            waiting = λ k d lt. s.fits.waiting (suc k) d (omega arith);
            absent = s.fits.absent;
            apart = s.fits.apart;
          };
          count = one_more read file.name (length sheets) s.count;
          next = next_at read file.name names_waiting asked.queue sheets s.fits.queue s.count;
          asked = first.0;
          file = found_holds (λ (found : Option (List ℕ)). SheetOf file.name found result) file.bytes (known.sheets file.name)
              (sheet_whole file.name result) comes first.1;
          rest = λ files f. s.rest files (record { sheets = λ n h. f.sheets n h; symbols = λ n h. f.symbols n h });
        };
      }

  -- the same, with the file as it is taken, and its bytes as they are read
  pub found_turn : {before : AskedData} {inside file : SheetFileData} {bytes : List ℕ}
      (asked : AskedData) (result : Result SheetData FileFault) →
      StandsAt told names read [] before sheets → TakesNext before (Some file) asked → inside ≡ file → bytes ≡ inside.bytes →
      ReadAs sheet_file (faults.Refused inside.name) WasRead bytes result →
      TurnAt told names sheets asked (read ++ file.name ∷ []) [] file.name result
  found_turn {inside = inside} {file = file} {bytes = bytes} asked result at_stand next is whole comes =
      turn_of_found asked file result (subst (λ (a : AskedData). StandsAt told names read [] a sheets) next at_stand)
      (subst (λ (f : SheetFileData). SheetOf f.name (Some f.bytes) result) is
      (subst (λ (b : List ℕ). ReadAs sheet_file (faults.Refused inside.name) WasRead b result) whole comes))

-- no file waits: all is read
module _ {told : Option Files} {names read : List (List ℕ)} {before : AskedData} {sheets : List SheetData}
    {g : Gathered} (now : AskedData) (at_stand : StandsAt told names read [] before sheets)
    (none : TakesNext before None now) (all : g ≡ gathered sheets now) where
  read_in_queue : length sheets ≡ length before.queue
  read_in_queue =
      let s = at_stand.stands in
      let queue : before.queue ≡ read =
      s.fits.queue ∙ ap (λ (ws : List SheetFileData). read ++ map (λ (w : SheetFileData). w.name) ws) none.0 ∙ append-nil read in
      sym s.count ∙ ap length (sym queue)

  gathered_before : gathered sheets before ≡ g
  gathered_before = sym (all ∙ ap (gathered sheets) none.1)

  pub all_read : length g.sheets ≡ length g.queue
  all_read = subst (λ (h : Gathered). length h.sheets ≡ length h.queue) gathered_before read_in_queue

  pub done : ReadsFrom told names (Ok g)
  done = subst (λ (h : Gathered). ReadsFrom told names (Ok h)) gathered_before ends
    where
      ends : ReadsFrom told names (Ok (gathered sheets before))
      ends =
          let known = at_stand.files in
          let s = at_stand.stands in
          let outcome : Result Gathered FileFault = Ok (gathered sheets before) in
          of_told told known (λ (files : ProjectFiles). (count : ℕ) × SheetsComeTo files count (unread names) outcome) s.fits.as_told
          (s.rest known (follows_self (at before read [] known)) 0 outcome
          (slice_get_past before.queue (length sheets) (omega (arith, read_in_queue)), refl))

-- before anything is read

first_files : (told : Option Files) → (known : ProjectFiles) × AreTold told known
first_files None = (record { sheets = λ (name : List ℕ). None; symbols = λ (name : List ℕ). None }, tt)
first_files (Some files) = (record { sheets = files; symbols = files }, refl)

abbrev pub at_first : List (List ℕ) → AskedData
at_first names = record { queue = names; waiting = []; absent = []; symbols = [] }

pub starts : (told : Option Files) (names : List (List ℕ)) (asked : AskedData) (sheets : List SheetData) →
    IsStart names asked → sheets ≡ [] → StandsAt told names [] names asked sheets
starts told names asked sheets start none =
    let is : at_first names ≡ asked =
    λ i. record { queue = sym start.queue i; waiting = sym start.waiting i; absent = sym start.absent i; symbols = sym start.symbols i } in
    subst (λ (a : AskedData). StandsAt told names [] names a sheets) is
    (subst (λ (ss : List SheetData). StandsAt told names [] names (at_first names) ss) (sym none) first)
  where
    first : StandsAt told names [] names (at_first names) []
    first =
        let known = first_files told in
        record {
          files = known.0;
          stands = record {
            fits = record {
              as_told = known.1;
              queue = sym (append-nil names);
              waiting = λ k d lt. absurd (omega arith);
              absent = λ n is. absurd (true≢false (sym is));
              apart = λ n is. absurd (true≢false (sym is));
            };
            count = refl;
            rest = λ files f count outcome h. (count, h);
          };
        }

-- texts that stand once each, and what they name
key_at : (symbols : List AskedSymbol) (i : ℕ) (d : AskedSymbol) → get_or (keys_of symbols) i d.0 ≡ (get_or symbols i d).0
key_at [] i d = refl
key_at (s ∷ symbols) zero d = refl
key_at (s ∷ symbols) (suc i) d = key_at symbols i d

pub symbols_apart : (all : List AskedSymbol) → IsDistinct bytes_eq (keys_of all) → AllPairs (λ (a b : AskedSymbol). a.0 ≢ b.0) all
symbols_apart all distinct i j d lt within same =
    AllPairs-from_IsDistinct bytes_eq-Decides (keys_of all) distinct i j d.0 lt (omega (arith, length-keys_of all))
    (key_at all i d ∙ same ∙ sym (key_at all j d))
