use Rattle.std.proofs.Common.{rules}
use Rattle.submission_text.proofs.Claims.{again, settled, alike}
use Rattle.submission_text.proofs.answer.answer_to.Goals as goal

pub returns-in-Ok : goal.returns-in-Ok
returns-in-Ok c = record { value = search rules; again = again; settled = settled; alike = alike }

pub returns-in-Err : goal.returns-in-Err
returns-in-Err c = record { value = search rules; again = again; settled = settled; alike = alike }
