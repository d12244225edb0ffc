use Rattle.std.proofs.Common.{rules, ap, ◌∙◌, ◌≡◌, None, Some, map, option_map, [], codes}
use Rattle.clap.specs.Words.{found_of, matched_of, raw_values}
use Rattle.std.proofs.lemmas.Result.{IfOk-weaker}
use Rattle.std.specs.Prelude.{unwrap_or}
use Rattle.clap.proofs.WalkLemmas.{raw_values-rows}
use Rattle.option_words.proofs.parts.words_in.Goals as goal

pub returns-in-Some : goal.returns-in-Some
returns-in-Some c =
    let found : Some (map (λ s. s.now) c.in-Some.words.now) ≡ option_map raw_values (matched_of (found_of c.args.matches.now) (codes "words")) = search rules in
    let all = found ∙ raw_values-rows (found_of c.args.matches.now) (codes "words") in
    IfOk-weaker c.to_vec.result _ _ (λ v h. ap (map (λ s. s.now)) (h (λ x y e. e)) ∙ ap (λ o. unwrap_or o []) all) c.to_vec.ensures.items_if_clones_equal

pub returns-in-None : goal.returns-in-None
returns-in-None c =
    let found : None ≡ option_map raw_values (matched_of (found_of c.args.matches.now) (codes "words")) = search rules in
    let all = found ∙ raw_values-rows (found_of c.args.matches.now) (codes "words") in
    let empty : map (λ s. s.now) c.new.result.items ≡ [] = search rules in
    empty ∙ ap (λ o. unwrap_or o []) all
