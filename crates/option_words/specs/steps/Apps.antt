-- Steps of the code; no public clause cites them.
-- The clap command that reads the words, as clap's contracts see it.
use Rattle.std.specs.Prelude.{ℕ, List, [], ◌∷◌, Option, Some, None, true, codes, unwrap_or}
use Rattle.clap.specs.Words.{App, Row, Rule, all_of, first_of, new_rule}
use Rattle.clap.specs.Simple.{new_shape}
use Rattle.clap.specs.declared.builder.action.ArgAction.TheVariants.{Append}
use Rattle.clap.specs.declared.error.kind.ErrorKind.{ErrorKind}
use Rattle.clap.specs.declared.error.kind.ErrorKind.TheVariants as kind
use Rattle.option_words.specs.Words.{Parts}
use Rattle.option_words.specs.declared.fault.WordFault.{WordFault}
use Rattle.option_words.specs.declared.fault.WordFault.TheVariants.{NoMemory, Usage}

-- the argument that takes the words that are no option
abbrev pub words_rule : Rule
words_rule = record (new_rule (codes "words")) { action = Some Append }

-- the argument that is the option of this name
abbrev pub value_rule : List ℕ → Rule
value_rule name = record (new_rule (codes "value")) { long = Some name }

-- the same, if there is an option
abbrev pub option_rules : Option (List ℕ) → List Rule
option_rules None = []
option_rules (Some name) = value_rule name ∷ []

-- the command with this option or with none
abbrev pub app : Option (List ℕ) → App
app option = record {
  top = record (new_shape (codes "gafd")) {
    disable_help_flag = true;
    no_binary_name = true;
    rules = words_rule ∷ option_rules option;
  };
  subs = [];
}

-- what the matches of that command say
abbrev pub parts_in : List Row → Parts
parts_in rows =
    record {
      value = first_of (codes "value") rows;
      words = unwrap_or (all_of (codes "words") rows) [];
    }

-- want of memory stays what it is; every other error refuses the words
abbrev pub fault_by : ErrorKind → WordFault
fault_by kind.OutOfMemory = NoMemory
fault_by k = Usage
