use Rattle.scales.proofs.HeadroomLaws.{headroom_laws}
use Rattle.scales.proofs.headroom.Goals as goal

pub returns : goal.returns
returns c = search headroom_laws
