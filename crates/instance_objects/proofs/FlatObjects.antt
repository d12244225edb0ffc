-- An object in its instance, by its parts and by its body.
use Rattle.std.proofs.Common.{◌≡◌, ℕ, sym}
use Rattle.geda_model.specs.declared.object.Body.{Body}
use Rattle.geda_model.specs.Sheets.{ObjectData}
use Rattle.hierarchy.specs.declared.instances.Instance.{Instance}
use Rattle.instance_objects.specs.Occurrences.{FlatObject}

-- an object as it stands in the instance at a place
abbrev pub flat : ℕ → Instance → ℕ → ObjectData → FlatObject
flat place i id o = record { place = place; instance = i; id = id; object = o }

-- the same object with another body
abbrev pub with_body : FlatObject → Body → FlatObject
with_body f body = flat f.place f.instance f.id (record { body = body; attrs = f.object.attrs })

-- with the body that it has, it is itself
pub with_body-same : (f : FlatObject) (body : Body) → f.object.body ≡ body → with_body f body ≡ f
with_body-same f body e = λ j. with_body f (sym e j)
