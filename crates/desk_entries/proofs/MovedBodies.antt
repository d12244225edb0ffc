-- What moves and turns make of an object that can be written.
use Rattle.std.proofs.Common.{◌≡◌, ℕ, ℤ, Bool, true, false, List, [], ◌∷◌, length, map, Option, Some, None, Result, Ok, Err, IfSome, refl, ap, sym, subst, suc, ◌≤◌}
use Rattle.std.specs.Prelude.{cond}
use Rattle.std.specs.List.{AllByRecursion}
use Rattle.std.specs.Option.{option_and_then, option_map}
use Rattle.std.proofs.lemmas.List.Elements.{All-from_recursion, recursion_from_All}
use Rattle.geda_geom.specs.declared.conductor.Point.{Point}
use Rattle.geda_model.specs.Data.{TextData}
use Rattle.geda_model.specs.Limits.{most_objects}
use Rattle.geda_model.specs.Shapes.{PartData, ComponentData}
use Rattle.geda_model.specs.Sheets.{ObjectData}
use Rattle.geda_model.specs.declared.shape.Shape.{Shape}
use Rattle.geda_model.specs.declared.shape.Shape.TheVariants as shapes
use Rattle.geda_model.specs.declared.object.Body.{Body}
use Rattle.geda_model.specs.declared.object.Body.TheVariants as bodies
use Rattle.geda_grammar.specs.Writable.{BodyIsWritable, ObjectIsWritable, PartIsWritable, ShapeIsWritable, SymbolIsWritable}
use Rattle.edit_move.specs.Faults.{is_movable, is_turnable, moved, or_out_of_range, turned}
use Rattle.edit_move.specs.Motions.{component_angle, component_mirror, point_after}
use Rattle.edit_move.specs.Objects.{all_of, at, body_after, component_after, embedded_after, ends_after, object_after, part_after, parts_after, shape_after, text_after, texts_after}
use Rattle.edit_move.specs.declared.fault.MoveFault.{MoveFault}

-- what holds of all that may follow holds of what does
bound : {A B : Type 0} (P : B → Type 0) (f : A → Option B) (o : Option A) → ((x : A) → IfSome (f x) P) → IfSome (option_and_then f o) P
bound P f None h = tt
bound P f (Some x) h = h x

mapped : {A B : Type 0} (P : A → Type 0) (Q : B → Type 0) (f : A → B) (o : Option A) → ((x : A) → P x → Q (f x)) → IfSome o P → IfSome (option_map f o) Q
mapped P Q f None h k = tt
mapped P Q f (Some x) h k = h x k

-- a picture keeps its lines
shape_kept : (m : _) (s : Shape) → ShapeIsWritable s → IfSome (shape_after m s) ShapeIsWritable
unfolding shape_after
shape_kept m (shapes.Straight x1 y1 x2 y2 color stroke) w =
    bound ShapeIsWritable (λ (e : Point × Point). Some (shapes.Straight e.0.x e.0.y e.1.x e.1.y color stroke)) (ends_after m (at x1 y1) (at x2 y2)) (λ e. tt)
shape_kept m (shapes.Picture x y width height angle mirrored file embedded) w =
    bound ShapeIsWritable (λ (p : Point). Some (shapes.Picture p.x p.y width height angle mirrored file embedded)) (point_after m (at x y)) (λ p. w)
shape_kept m (shapes.Rect x y width height color stroke fill) w =
    bound ShapeIsWritable (λ (p : Point). Some (shapes.Rect p.x p.y width height color stroke fill)) (point_after m (at x y)) (λ p. tt)
shape_kept m (shapes.Circle x y radius color stroke fill) w =
    bound ShapeIsWritable (λ (p : Point). Some (shapes.Circle p.x p.y radius color stroke fill)) (point_after m (at x y)) (λ p. tt)
shape_kept m (shapes.Arc x y radius start sweep color stroke) w =
    bound ShapeIsWritable (λ (p : Point). Some (shapes.Arc p.x p.y radius start sweep color stroke)) (point_after m (at x y)) (λ p. tt)
shape_kept m (shapes.Text t) w = bound ShapeIsWritable (λ (u : TextData). Some (shapes.Text u)) (text_after m t) (λ u. tt)
shape_kept m (shapes.Net x1 y1 x2 y2 color) w =
    bound ShapeIsWritable (λ (e : Point × Point). Some (shapes.Net e.0.x e.0.y e.1.x e.1.y color)) (ends_after m (at x1 y1) (at x2 y2)) (λ e. tt)
shape_kept m (shapes.Bus x1 y1 x2 y2 color ripper) w =
    bound ShapeIsWritable (λ (e : Point × Point). Some (shapes.Bus e.0.x e.0.y e.1.x e.1.y color ripper)) (ends_after m (at x1 y1) (at x2 y2)) (λ e. tt)
shape_kept m (shapes.Pin x1 y1 x2 y2 color bus whichend) w =
    bound ShapeIsWritable (λ (e : Point × Point). Some (shapes.Pin e.0.x e.0.y e.1.x e.1.y color bus whichend)) (ends_after m (at x1 y1) (at x2 y2)) (λ e. tt)
shape_kept m (shapes.Path color stroke fill content) w = tt

part_kept : (m : _) (p : PartData) → PartIsWritable p → IfSome (part_after m p) PartIsWritable
unfolding part_after
part_kept m p w = by (shape_after m p.shape) (shape_kept m p.shape w)
  where
    by : (o : Option Shape) → IfSome o ShapeIsWritable
        → IfSome (option_and_then (λ (shape : Shape). option_and_then (λ (attrs : List TextData). Some (record { shape = shape; attrs = attrs })) (texts_after m p.attrs)) o) PartIsWritable
    by None h = tt
    by (Some s) h = bound PartIsWritable (λ (attrs : List TextData). Some (record { shape = s; attrs = attrs })) (texts_after m p.attrs) (λ attrs. h)

-- as many, each of which can be written
record AreParts (parts after : List PartData) : Type 0 where
  each : AllByRecursion PartIsWritable after
  many : length after ≡ length parts

each_kept : (m : _) (ps : List PartData) → AllByRecursion PartIsWritable ps → IfSome (all_of (map (part_after m) ps)) (AreParts ps)
each_kept m [] h = record { each = tt; many = refl }
each_kept m (p ∷ ps) h = by (part_after m p) (part_kept m p h.0) (all_of (map (part_after m) ps)) (each_kept m ps h.1)
  where
    by : (o : Option PartData) → IfSome o PartIsWritable → (others : Option (List PartData)) → IfSome others (AreParts ps)
        → IfSome (option_and_then (λ (first : PartData). option_and_then (λ (rest : List PartData). Some (first ∷ rest)) others) o) (AreParts (p ∷ ps))
    by None a others b = tt
    by (Some q) a None b = tt
    by (Some q) a (Some qs) b = record { each = (a, b.each); many = ap suc b.many }

embedded_kept : (m : _) (name : List ℕ) (e : Option (List PartData)) → SymbolIsWritable name e → IfSome (embedded_after m e) (SymbolIsWritable name)
unfolding embedded_after parts_after
embedded_kept m name None w = w
embedded_kept m name (Some parts) w =
    mapped (AreParts parts) (SymbolIsWritable name) Some (all_of (map (part_after m) parts))
    (λ after k. record { short = w.short; few = subst (λ (n : ℕ). n ≤ most_objects) (sym k.many) w.few; each = All-from_recursion PartIsWritable after k.each })
    (each_kept m parts (recursion_from_All PartIsWritable parts w.each))

abbrev component_made : ComponentData → ℕ → Bool → Point → Option (List PartData) → ComponentData
component_made c angle mirror p embedded = record {
  x = p.x;
  y = p.y;
  selectable = c.selectable;
  angle = angle;
  mirror = mirror;
  basename = c.basename;
  embedded = embedded;
}

abbrev HasWritableSymbol : ComponentData → Type 0
HasWritableSymbol c = SymbolIsWritable c.basename c.embedded

component_kept : (m : _) (c : ComponentData) → HasWritableSymbol c → IfSome (component_after m c) HasWritableSymbol
unfolding component_after
component_kept m c w =
    bound HasWritableSymbol
    (λ (p : Point). option_and_then (λ (embedded : Option (List PartData)). Some (component_made c (component_angle m c.angle) (component_mirror m c.mirror) p embedded)) (embedded_after m c.embedded))
    (point_after m (at c.x c.y)) (λ p. by p (embedded_after m c.embedded) (embedded_kept m c.basename c.embedded w))
  where
    by : (p : Point) (o : Option (Option (List PartData))) → IfSome o (SymbolIsWritable c.basename)
        → IfSome (option_and_then (λ (embedded : Option (List PartData)). Some (component_made c (component_angle m c.angle) (component_mirror m c.mirror) p embedded)) o) HasWritableSymbol
    by p None h = tt
    by p (Some e) h = h

body_kept : (m : _) (b : Body) → BodyIsWritable b → IfSome (body_after m b) BodyIsWritable
unfolding body_after
body_kept m (bodies.Shape s) w = mapped ShapeIsWritable BodyIsWritable bodies.Shape (shape_after m s) (λ t h. h) (shape_kept m s w)
body_kept m (bodies.Component c) w = mapped HasWritableSymbol BodyIsWritable bodies.Component (component_after m c) (λ d h. h) (component_kept m c w)

object_kept : (m : _) (o : ObjectData) → ObjectIsWritable o → IfSome (object_after m o) ObjectIsWritable
unfolding object_after
object_kept m o w = by (body_after m o.body) (body_kept m o.body w)
  where
    by : (b : Option Body) → IfSome b BodyIsWritable
        → IfSome (option_and_then (λ (body : Body). option_and_then (λ (attrs : List TextData). Some (record { body = body; attrs = attrs })) (texts_after m o.attrs)) b) ObjectIsWritable
    by None h = tt
    by (Some body) h = bound ObjectIsWritable (λ (attrs : List TextData). Some (record { body = body; attrs = attrs })) (texts_after m o.attrs) (λ attrs. h)

-- of a result: if it is one, this holds of it
abbrev pub IfMade : {E : Type 0} → Result ObjectData E → Type 0
IfMade (Ok o) = ObjectIsWritable o
IfMade (Err e) = Unit {0}

in_range : (o : Option ObjectData) → IfSome o ObjectIsWritable → IfMade (or_out_of_range o)
in_range None h = tt
in_range (Some o) h = h

unless : (b : Bool) (r : Result ObjectData MoveFault) (e : MoveFault) → IfMade r → IfMade (cond b r (Err e))
unless true r e h = h
unless false r e h = tt

-- an object that is moved, or turned, can be written as before
pub moved_kept : (dx dy : ℤ) (o : ObjectData) → ObjectIsWritable o → IfMade (moved dx dy o)
unfolding moved
moved_kept dx dy o w = unless (is_movable o.body) _ _ (in_range _ (object_kept _ o w))

pub turned_kept : (x y : ℤ) (quarter : ℕ) (mirror : Bool) (o : ObjectData) → ObjectIsWritable o → IfMade (turned x y quarter mirror o)
unfolding turned
turned_kept x y quarter mirror o w = unless (is_turnable o.body) _ _ (in_range _ (object_kept _ o w))
