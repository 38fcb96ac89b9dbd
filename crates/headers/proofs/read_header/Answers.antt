use Rattle.headers.proofs.HeaderLaws.{header_laws}
use Rattle.headers.proofs.read_header.Goals as goal

pub returns : goal.returns
returns c = search header_laws
