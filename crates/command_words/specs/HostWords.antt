-- The values of `--host` among the words behind `serve`, and the other words, which are those of a
-- command whose one option is `--who` (own).
use Rattle.std.specs.Prelude.{ℕ, Bool, true, false, ◌==◌, nat_eq, if◌then◌else◌, List, [], ◌∷◌, ◌++◌, drop, Option, Some, None, codes, option_and_then}
use Rattle.std.specs.List.{starts_with}
use Rattle.std.specs.Str.{bytes_eq}
use Rattle.command_words.specs.declared.host_words.Next.{Next}
use Rattle.command_words.specs.declared.host_words.Next.TheVariants as nexts

-- the values, the other words, and what the next word is
pub record HostWordsData : Type 0 where
  pub hosts : List (List ℕ)
  pub words : List (List ℕ)
  pub next : Next

-- no word yet
abbrev pub no_words : HostWordsData
no_words = record { hosts = []; words = []; next = nexts.Any }

-- one more value, behind which any word may come
abbrev pub with_host : List ℕ → HostWordsData → HostWordsData
with_host value found = record found { hosts = found.hosts ++ value ∷ []; next = nexts.Any }

-- one more of the other words, behind which this comes
abbrev pub with_kept : List ℕ → Next → HostWordsData → HostWordsData
with_kept word next found = record found { words = found.words ++ word ∷ []; next = next }

-- the word begins with a hyphen
abbrev pub is_hyphened : List ℕ → Bool
is_hyphened [] = false
is_hyphened (byte ∷ bytes) = byte == 45

-- the word before `--`, where it is no value of an option
abbrev pub with_any : List ℕ → HostWordsData → HostWordsData
with_any word found =
    if bytes_eq word (codes "--") then with_kept word nexts.Plain found
    else if bytes_eq word (codes "--who") then with_kept word nexts.Who found
    else if bytes_eq word (codes "--host") then record found { next = nexts.Host }
    else if starts_with nat_eq word (codes "--host=") then with_host (drop 7 word) found
    else with_kept word nexts.Any found

-- one word more; none where it is to be the value of `--host` and begins with a hyphen
abbrev pub word_taken : Next → HostWordsData → List ℕ → Option HostWordsData
word_taken nexts.Host found word =
    if is_hyphened word then None else Some (with_host word found)
word_taken nexts.Who found word = Some (with_kept word nexts.Any found)
word_taken nexts.Plain found word = Some (with_kept word nexts.Plain found)
word_taken nexts.Any found word = Some (with_any word found)

-- all words, from left to right
abbrev pub words_taken : HostWordsData → List (List ℕ) → Option HostWordsData
words_taken found [] = Some found
words_taken found (word ∷ rest) =
    option_and_then (λ now. words_taken now rest) (word_taken found.next found word)

-- what was found; none where a value of `--host` is still to come
abbrev pub found_whole : Next → HostWordsData → Option HostWordsData
found_whole nexts.Host found = None
found_whole next found = Some found

-- the values of `--host` in words, and the other words
abbrev pub hosts_apart : List (List ℕ) → Option HostWordsData
hosts_apart words =
    option_and_then (λ found. found_whole found.next found) (words_taken no_words words)
