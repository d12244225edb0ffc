-- Groups of touching conductors as keys, and what stands for all that touches.
use Rattle.std.proofs.Common.{◌≡◌, ℕ, ◌==◌, ◌&&◌, Bool, true, false, cond, List, [], Option, Some, None, get_or, length, is_some, ap, sym, ◌∙◌, refl}
use Rattle.std.specs.Bool.{Decides}
use Rattle.std.specs.Option.{option_map, option_to_list}
use Rattle.std.specs.Prelude.{Contains}
use Rattle.std.proofs.lemmas.Bool.Decides.{Decides-and, Decides-eqb, Decides-like}
use Rattle.std.proofs.lemmas.List.Elements.{Contains-push}
use Rattle.geda_defs.specs.Classes.{Joined}
use Rattle.geda_geom.specs.declared.conductor.Key.{Key}
use Rattle.flat_rows.specs.Conductors.{FlatConductor}
use Rattle.link_classes.specs.InstanceGroups.{AreGrouped, AreInstanceGroups, Groups, IsIn}
use Rattle.link_classes.specs.Links.{AreTouching, AtPlaces}
use Rattle.link_classes.specs.steps.FirstPlaces.{ShareKey}
use Rattle.link_classes.specs.steps.GroupPlaces.{InstanceGroup, groups_of, same_group}
use Rattle.pair_classes.specs.Pairs.{Spans}
use Rattle.pair_classes.proofs.LabelLemmas.{joined_of}
use Rattle.pair_classes.proofs.ListLemmas.{is_only, none_is_in}

-- the test tells groups apart
pub same_group-Decides : (a b : InstanceGroup) → Decides (same_group a b) (a ≡ b)
same_group-Decides a b =
    let keys = Decides-and (a.1.id == b.1.id) (a.1.place == b.1.place) (Decides-eqb a.1.id b.1.id) (Decides-eqb a.1.place b.1.place) in
    Decides-like (same_group a b) one parts (Decides-and (a.0 == b.0) ((a.1.id == b.1.id) && (a.1.place == b.1.place)) (Decides-eqb a.0 b.0) keys)
  where
    one : (a.0 ≡ b.0) × ((a.1.id ≡ b.1.id) × (a.1.place ≡ b.1.place)) → a ≡ b
    one h = rw (h.0, h.1.0, h.1.1) refl

    parts : a ≡ b → (a.0 ≡ b.0) × ((a.1.id ≡ b.1.id) × (a.1.place ≡ b.1.place))
    parts e = (ap (λ (x : InstanceGroup). x.0) e, (ap (λ (x : InstanceGroup). x.1.id) e, ap (λ (x : InstanceGroup). x.1.place) e))

module _ (groups : Groups) where
  -- a group of a conductor is its own, in its own instance
  has_group : (f : FlatConductor) (q : InstanceGroup) → Contains (groups_of groups f) q → (f.instance ≡ q.0) × IsIn groups f q.1
  has_group f q c = by (is_some f.shape) (groups f.key) refl refl c
    where
      by : (b : Bool) (o : Option Key) → is_some f.shape ≡ b → groups f.key ≡ o
          → Contains (option_to_list (cond b (option_map (λ group. (f.instance, group)) o) None)) q → (f.instance ≡ q.0) × IsIn groups f q.1
      by false o drawn has c = none_is_in q c
      by true None drawn has c = none_is_in q c
      by true (Some group) drawn has c =
          let e : ◌≡◌ {A = InstanceGroup} (f.instance, group) q = is_only (f.instance, group) q c in
          (ap (λ (x : InstanceGroup). x.0) e, record { drawn = drawn; has = has ∙ ap (λ (x : InstanceGroup). Some x.1) e })

  in_group : (f : FlatConductor) (group : Key) → IsIn groups f group → Contains (groups_of groups f) (f.instance, group)
  in_group f group is = rw (is.drawn, is.has) (Contains-push [] (f.instance, group))

  -- to have a group in common is to stand in one
  grouped : (f g : FlatConductor) → ShareKey (groups_of groups) f g → AreGrouped groups f g
  grouped f g share =
      let one = has_group f share.0 share.1 in
      let two = has_group g share.0 share.2 in
      record { together = one.0 ∙ sym two.0; group = share.0.1; first = one.1; second = two.1 }

  share_group : (f g : FlatConductor) → AreGrouped groups f g → ShareKey (groups_of groups) f g
  share_group f g are =
      ((f.instance, are.group), in_group f are.group are.first, rw are.together (in_group g are.group are.second))

  -- pairs that stand for groups in common stand for all that touches
  pub spans_touching : (cs : List FlatConductor) (pairs : List (ℕ × ℕ)) → AreInstanceGroups cs groups
      → Spans (AtPlaces (ShareKey (groups_of groups)) cs) (length cs) pairs → Spans (AtPlaces AreTouching cs) (length cs) pairs
  spans_touching cs pairs are spans = record {
    within = spans.within;
    inside = λ i j tied. joined_of (AtPlaces (ShareKey (groups_of groups)) cs) (AtPlaces AreTouching cs) joined i j (spans.inside i j tied);
    covers = λ f same i j at. spans.covers f same i j (shared i j (are.full i j at));
  }
    where
      joined : (i j : ℕ) → AtPlaces (ShareKey (groups_of groups)) cs i j → Joined (AtPlaces AreTouching cs) i j
      joined i j at = are.sound i j (record { first = at.first; second = at.second; related = λ d. grouped (get_or cs i d) (get_or cs j d) (at.related d) })

      shared : (i j : ℕ) → AtPlaces (AreGrouped groups) cs i j → AtPlaces (ShareKey (groups_of groups)) cs i j
      shared i j at = record { first = at.first; second = at.second; related = λ d. share_group (get_or cs i d) (get_or cs j d) (at.related d) }
