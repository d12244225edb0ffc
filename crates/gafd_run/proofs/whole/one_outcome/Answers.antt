use Rattle.command_words.specs.Commands.{command_of}
use Rattle.gafd_run.proofs.OneOutcome.{same_outcomes}
use Rattle.gafd_run.proofs.whole.one_outcome.Goals as goal

pub returns : goal.returns
returns c = λ files arguments. same_outcomes files (command_of arguments)
