-- A message is one request only.
use Rattle.std.proofs.Common.{◌≡◌, ℕ, Bool, true, false, List, Option, Some, None, sym, ap, ◌∙◌}
use Rattle.edit_json.specs.EntryValues.{entry_value}
use Rattle.edit_json.proofs.ValueLemmas.{same_value}
use Rattle.web_requests.specs.declared.request.Request.{Request}
use Rattle.web_requests.specs.declared.request.Request.TheVariants.{Edit, Report, Fixed}
use Rattle.web_requests.specs.declared.request.FixedRequest.TheVariants.{BadEdit, BadQuery, NoRoute, NotAllowed, NoSheet, NoSymbol}
use Rattle.web_requests.specs.declared.route.Route.{Route}
use Rattle.web_requests.specs.declared.route.Route.TheVariants as routes
use Rattle.web_requests.specs.Paths.{path_of_target, query_of_target, route_at}
use Rattle.web_requests.specs.Requests.{IsAsked, IsByMethod, IsEditRequest, IsOnRoute, IsRequest, is_allowed}

some_same : {A : Type 0} (x y : A) → Some x ≡ Some y → x ≡ y
some_same {A} x y e = ap value e
  where
    value : Option A → A
    value None = x
    value (Some z) = z

none_some : {A : Type 0} (o : Option A) (x : A) → o ≡ None → o ≡ Some x → ⊥
none_some o x n s = absurd (let k = sym n ∙ s in cc)

one_edit : (body : List ℕ) (r q : Request) → IsEditRequest body r → IsEditRequest body q → r ≡ q
one_edit body (Edit e) (Edit f) a b = ap Edit (same_value e f (some_same (entry_value e) (entry_value f) (sym a.1 ∙ b.1)))
one_edit body (Edit e) (Fixed (BadEdit p)) a b = absurd (none_some _ p a.0 b)
one_edit body (Fixed (BadEdit p)) (Edit f) a b = absurd (none_some _ p b.0 a)
one_edit body (Fixed (BadEdit p)) (Fixed (BadEdit o)) a b = ap (λ x. Fixed (BadEdit x)) (some_same p o (sym a ∙ b))
one_edit body (Report least what) q a b = absurd a
one_edit body (Fixed BadQuery) q a b = absurd a
one_edit body (Fixed NoRoute) q a b = absurd a
one_edit body (Fixed (NotAllowed m)) q a b = absurd a
one_edit body (Fixed NoSheet) q a b = absurd a
one_edit body (Fixed NoSymbol) q a b = absurd a
one_edit body r (Report least what) a b = absurd b
one_edit body r (Fixed BadQuery) a b = absurd b
one_edit body r (Fixed NoRoute) a b = absurd b
one_edit body r (Fixed (NotAllowed m)) a b = absurd b
one_edit body r (Fixed NoSheet) a b = absurd b
one_edit body r (Fixed NoSymbol) a b = absurd b

one_asked : (route : Route) (path query body : List ℕ) (r q : Request) → IsAsked route path query body r → IsAsked route path query body q → r ≡ q
one_asked routes.Edits path query body r q a b = one_edit body r q a b
one_asked (routes.Net form) path query body r q a b = a ∙ sym b
one_asked routes.Drc path query body r q a b = a ∙ sym b
one_asked routes.Sheets path query body r q a b = a ∙ sym b
one_asked routes.Sheet path query body r q a b = a ∙ sym b
one_asked routes.Symbol path query body r q a b = a ∙ sym b
one_asked routes.Objects path query body r q a b = a ∙ sym b

one_by_method : (allowed : Bool) (route : Route) (path query body : List ℕ) (r q : Request)
    → IsByMethod allowed route path query body r → IsByMethod allowed route path query body q → r ≡ q
one_by_method true route path query body r q a b = one_asked route path query body r q a b
one_by_method false route path query body r q a b = a ∙ sym b

one_on_route : (method path query body : List ℕ) (route : Option Route) (r q : Request)
    → IsOnRoute method path query body route r → IsOnRoute method path query body route q → r ≡ q
one_on_route method path query body None r q a b = a ∙ sym b
one_on_route method path query body (Some route) r q a b = one_by_method (is_allowed method route) route path query body r q a b

pub one_request : (method target body : List ℕ) (r q : Request) → IsRequest method target body r → IsRequest method target body q → r ≡ q
one_request method target body r q a b = one_on_route method (path_of_target target) (query_of_target target) body (route_at (path_of_target target)) r q a b
