-- A path names one resource.
use Rattle.ring_http.proofs.Paths.{names_one}
use Rattle.ring_http.proofs.route.resource_at.Goals as goal

pub returns : goal.returns
returns c = names_one _ _ c.found_at.ensures
