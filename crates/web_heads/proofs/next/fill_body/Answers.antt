use Rattle.std.proofs.Common.{ℕ, ◌≤◌, List, [], ◌∷◌, ◌∙◌, Option, arith}
use Rattle.web_heads.specs.declared.buffer.Filled.TheVariants.{More}
use Rattle.web_heads.specs.steps.Reading.{FillsEmpty, MovesSome}
use Rattle.web_heads.proofs.Nexts.{moves_over, moves_read, moves_same}
use Rattle.web_heads.proofs.next.fill_body.Goals as goal

moves_filled : (before now after : Option (List ℕ)) (old body mid new : List ℕ) → MovesSome before now old body mid → FillsEmpty now after mid new More → MovesSome before after old body new
moves_filled before now after old body [] new m f = moves_read before now after old body [] new m f.0 f.1
moves_filled before now after old body (byte ∷ bytes) new m f = moves_same before now after old body (byte ∷ bytes) new m f.0 f.1

no_less : (a b c : ℕ) → a ≤ b → b ≤ c → a ≤ c
no_less a b c low high = omega arith

pub loop-link-preserved : goal.loop-link-preserved
loop-link-preserved g c =
    let first = g.L.Link.input c.args.link.now in
    let now = g.L.Link.input c.fill_empty.new.link in
    let old = c.args.buffer.now in
    let body = c.loop-link.message.body in
    let before = c.loop-link.invariant in
    let filled = c.in-More.ensures in
    let moved = c.move_bytes.ensures in
    record {
      moved = moves_over first now old body c.fill_empty.new.buffer c.move_bytes.new.message.body c.move_bytes.new.buffer (moves_filled first (g.L.Link.input c.loop-link.link) now old body c.loop-link.buffer c.fill_empty.new.buffer before.moved filled.input) moved.same;
      fits = moved.fits;
      head = record {
        method = moved.head.method ∙ before.head.method;
        target = moved.head.target ∙ before.head.target;
        closing = moved.head.closing ∙ before.head.closing;
        user = moved.head.user ∙ before.head.user;
      };
      output = filled.output ∙ before.output;
      later = no_less _ _ _ before.later filled.later;
      write_later = no_less _ _ _ before.write_later filled.write_later;
    }
