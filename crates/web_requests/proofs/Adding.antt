-- A route that no row conflicts with is added, or there is no memory.
use Rattle.std.proofs.Common.{◌≡◌, true, false, is_none, Result, Ok, Err, refl, sym, ap, ◌∙◌}
use Rattle.matchit.specs.Rows.{RowsOf}
use Rattle.matchit.specs.Route.{Scan}
use Rattle.matchit.specs.Router.{RouteOf, InsertsRead, nearest}
use Rattle.matchit.specs.declared.error.InsertError.{InsertError}
use Rattle.matchit.specs.declared.error.InsertError.TheVariants.{Conflict, InvalidParam, InvalidParamSegment, InvalidCatchAll, OutOfMemory}
use Rattle.web_requests.specs.declared.route.Route.{Route}
use Rattle.web_requests.specs.steps.Reading.{is_free_of, with_scan}

abbrev pub Rows : Type 0
Rows = RowsOf (RouteOf Route)

-- it is refused for want of memory alone
pub refused_for_memory : (read : Result Scan InsertError) (route : Route) (old new : Rows) (e : InsertError)
    → is_free_of read old ≡ true → InsertsRead read route old new (Err e) → e ≡ OutOfMemory
refused_for_memory (Ok s) route old new OutOfMemory free i = refl
refused_for_memory (Ok s) route old new (Conflict with) free i =
    let taken : is_none (nearest s.pattern old) ≡ false = ap is_none i.1.1 in
    absurd (let k = sym free ∙ taken in cc)
refused_for_memory (Ok s) route old new InvalidParam free i = absurd i.1
refused_for_memory (Ok s) route old new InvalidParamSegment free i = absurd i.1
refused_for_memory (Ok s) route old new InvalidCatchAll free i = absurd i.1
refused_for_memory (Err x) route old new e free i = absurd (let k = free in cc)

-- it stands in its place
pub added : (read : Result Scan InsertError) (route : Route) (old new : Rows) (u : Unit {0})
    → is_free_of read old ≡ true → InsertsRead read route old new (Ok u) → new ≡ with_scan read route old
added (Ok s) route old new u free i = i.1
added (Err x) route old new u free i = absurd (let k = free in cc)
