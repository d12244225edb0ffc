use Rattle.std.proofs.Common.{None, false, map, option_copied, string_bytes, []}
use Rattle.option_words.proofs.Reading.{refused_single}
use Rattle.option_words.proofs.parts.read_parts.Goals as goal

pub returns-then-has_single : goal.returns-then-has_single
returns-then-has_single c = record { read = refused_single (option_copied c.args.option) (map string_bytes c.args.words.now) false (record { value = None; words = [] }) c.if-has_single.ensures }
