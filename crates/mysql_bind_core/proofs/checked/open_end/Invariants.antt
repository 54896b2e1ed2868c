use Rattle.std.proofs.Common.{◌-◌, drop, length}
use Rattle.mysql_named_params.specs.Reading.{OnTokensIn}
use Rattle.mysql_binding.specs.FoundPlaces.{BeginWithPlaces}
use Rattle.mysql_bind_core.proofs.QueryEndLemmas.{PassedTo}
use Rattle.mysql_bind_core.proofs.checked.open_end.Given as goal

abbrev pub invariant-places : goal.invariant-places
invariant-places l =
    PassedTo l.surveyed.reading.no_backslash_escape l.surveyed.query.now l.rest
    × OnTokensIn l.surveyed.reading l.rest (BeginWithPlaces (drop l.passed l.surveyed.known.now))

abbrev pub decreases-places : goal.decreases-places
decreases-places l = length l.surveyed.known.now - l.passed

abbrev pub invariant-tokens : goal.invariant-tokens
invariant-tokens l = PassedTo l.surveyed.reading.no_backslash_escape l.surveyed.query.now l.rest

abbrev pub decreases-tokens : goal.decreases-tokens
decreases-tokens l = length l.rest
