use Rattle.std.proofs.Common.{◌≡◌, ℕ, ◌+◌, ◌<◌, ◌≤◌, List, ◌++◌, length, take, drop, sym, ap, ap₂, ◌∙◌, arith, append_assoc, length-append, take-append-drop}
use Rattle.std.proofs.lemmas.List.{with_items_is, take_at, length-take-le}
use Rattle.web_heads.specs.Links.{with_front}
use Rattle.web_heads.proofs.Fronts.{front_none}
use Rattle.web_heads.proofs.buffer.Buffer.fill.Goals as goal

-- what stands before the room stays
kept : (have : ℕ) (all front old new : List ℕ) → length front ≡ have → all ≡ front ++ old → take have (front ++ new) ≡ take have all
kept have all front old new len parts = take_at front new have len ∙ sym (ap (take have) parts ∙ take_at front old have len)

-- what is read stands behind it
grown : (have count : ℕ) (all front old new : List ℕ) → length front ≡ have → all ≡ front ++ old → count ≤ length new → take (have + count) (front ++ new) ≡ take have all ++ take count new
grown have count all front old new len parts few =
    ap (λ rest. take (have + count) (front ++ rest)) (sym (take-append-drop count new))
    ∙ ap (take (have + count)) (sym (append_assoc front (take count new) (drop count new)))
    ∙ take_at (front ++ take count new) (drop count new) (have + count) (length-append front (take count new) ∙ ap₂ (λ a b. a + b) len (length-take-le count new few))
    ∙ ap (λ bytes. bytes ++ take count new) (sym (ap (take have) parts ∙ take_at front old have len))

-- the room is as long as before
same_length : (all front old new : List ℕ) → all ≡ front ++ old → length new ≡ length old → length (front ++ new) ≡ length all
same_length all front old new parts same = length-append front new ∙ ap (λ n. length front + n) same ∙ sym (ap length parts ∙ length-append front old)

-- there is room
has_room : (have : ℕ) (all front old bytes : List ℕ) → take have all ≡ bytes → have ≤ 8192 → length all ≡ 8192 → length front ≡ have → all ≡ front ++ old → length bytes < 8192 → 0 < length old
has_room have all front old bytes view few full len parts short =
    let part : length bytes ≡ have = ap length (sym view) ∙ length-take-le have all (omega arith) in
    let whole : length all ≡ length front + length old = ap length parts ∙ length-append front old in
    omega arith

pub returns-in-Ok-eq0-clause-input : goal.returns-in-Ok-eq0-clause-input
returns-in-Ok-eq0-clause-input g c =
    let have = c.self.inside.have in
    let all = c.self.inside.bytes.items in
    let front = c.split_at_mut-room.result.0.now in
    let old = c.split_at_mut-room.result.1.now in
    let new = c.read.new.room in
    let len : length front ≡ have = c.split_at_mut-room.ensures.front_len in
    let parts : all ≡ front ++ old = sym c.as_mut_slice.ensures.value ∙ c.split_at_mut-room.ensures.value in
    let same = same_length all front old new parts c.read.auto.room ∙ sym (ap length c.as_mut_slice.ensures.value) ∙ c.as_mut_slice.ensures.len in
    let input = c.in-Ok-eq0.ensures.input in
    let none = c.in-Ok-eq0.field-0-test in (
      sym (input.1 ∙ ap (λ n. with_front (take n new) (g.L.Link.input c.read.new.self)) none ∙ front_none (g.L.Link.input c.read.new.self)),
      ap (take have) (with_items_is c.self.inside.bytes (front ++ new) same) ∙ kept have all front old new len parts ∙ c.self.view_is,
      input.2 none (has_room have all front old c.args.self.now c.self.view_is c.self.invariant.0 c.self.invariant.1 len parts c.requires),
    )

pub returns-in-Ok-clause-input : goal.returns-in-Ok-clause-input
returns-in-Ok-clause-input g c =
    let have = c.self.inside.have in
    let all = c.self.inside.bytes.items in
    let front = c.split_at_mut-room.result.0.now in
    let old = c.split_at_mut-room.result.1.now in
    let new = c.read.new.room in
    let count = c.in-Ok.count in
    let len : length front ≡ have = c.split_at_mut-room.ensures.front_len in
    let parts : all ≡ front ++ old = sym c.as_mut_slice.ensures.value ∙ c.split_at_mut-room.ensures.value in
    let same = same_length all front old new parts c.read.auto.room ∙ sym (ap length c.as_mut_slice.ensures.value) ∙ c.as_mut_slice.ensures.len in
    let input = c.in-Ok.ensures.input in
    let few : count ≤ length new = omega (arith, input.0, c.read.auto.room) in
    let got = length-take-le count new few in (
      take count new,
      (
        input.1,
        ap (take (have + count)) (with_items_is c.self.inside.bytes (front ++ new) same)
            ∙ grown have count all front old new len parts few
            ∙ ap (λ bytes. bytes ++ take count new) c.self.view_is,
      ),
      omega (arith, got, c.in-Ok.count-test.1),
    )

pub returns-in-Err-clause-input : goal.returns-in-Err-clause-input
returns-in-Err-clause-input g c =
    let have = c.self.inside.have in
    let all = c.self.inside.bytes.items in
    let front = c.split_at_mut-room.result.0.now in
    let old = c.split_at_mut-room.result.1.now in
    let new = c.read.new.room in
    let len : length front ≡ have = c.split_at_mut-room.ensures.front_len in
    let parts : all ≡ front ++ old = sym c.as_mut_slice.ensures.value ∙ c.split_at_mut-room.ensures.value in
    let same = same_length all front old new parts c.read.auto.room ∙ sym (ap length c.as_mut_slice.ensures.value) ∙ c.as_mut_slice.ensures.len in (
      c.in-Err.ensures.input,
      ap (take have) (with_items_is c.self.inside.bytes (front ++ new) same) ∙ kept have all front old new len parts ∙ c.self.view_is,
    )
