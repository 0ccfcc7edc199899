use Rattle.calls.proofs.Followed.{plain_follows}
use Rattle.calls.proofs.laws.plain_follows.Goals as goal

pub returns : goal.returns
returns c = plain_follows
