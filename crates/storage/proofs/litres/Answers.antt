-- The two parts make up the floor.
use Rattle.std.proofs.Common.{sym}
use Rattle.rules.proofs.Laws.Storage.{litres_parts}
use Rattle.storage.proofs.litres.Goals as goal

pub returns : goal.returns
returns c = sym (litres_parts c.args.sum c.args.side)
