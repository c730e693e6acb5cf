use Rattle.locks.proofs.Laws.Common.{and_common}
use Rattle.locks.proofs.share.Goals as goal

pub returns : goal.returns
returns c = and_common c.args.v c.args.w c.requires
