use Rattle.words.proofs.WordLaws.{candidate_laws}
use Rattle.words.proofs.candidate.Goals as goal

pub returns-then-text-at-lt2 : goal.returns-then-text-at-lt2
returns-then-text-at-lt2 c = search candidate_laws

pub returns-in-105 : goal.returns-in-105
returns-in-105 c = search candidate_laws

pub returns-in-99 : goal.returns-in-99
returns-in-99 c = search candidate_laws

pub returns-in-110 : goal.returns-in-110
returns-in-110 c = search candidate_laws

pub returns-then-s : goal.returns-then-s
returns-then-s c = search candidate_laws

pub returns-else-s : goal.returns-else-s
returns-else-s c = search candidate_laws

pub returns-in-97 : goal.returns-in-97
returns-in-97 c = search candidate_laws

pub returns-then-s-2 : goal.returns-then-s-2
returns-then-s-2 c = search candidate_laws

pub returns-else-s-2 : goal.returns-else-s-2
returns-else-s-2 c = search candidate_laws

pub returns-in-111 : goal.returns-in-111
returns-in-111 c = search candidate_laws

pub returns-in-101 : goal.returns-in-101
returns-in-101 c = search candidate_laws

pub returns-in-117 : goal.returns-in-117
returns-in-117 c = search candidate_laws

pub returns-in_default : goal.returns-in_default
returns-in_default c = search candidate_laws
