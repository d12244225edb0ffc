use Rattle.std.proofs.Common.{◌≡◌}
use Rattle.form_urlencoded.specs.Parse.{pairs_left}
use Rattle.web_requests.specs.Queries.{least_in_query, min_values}
use Rattle.web_requests.specs.steps.Reading.{said_on}
use Rattle.web_requests.proofs.query.least_in.Given as goal

abbrev pub invariant-loop-pair : goal.invariant-loop-pair
invariant-loop-pair l = said_on l.least (min_values (pairs_left l.pair-iterator)) ≡ least_in_query l.query
