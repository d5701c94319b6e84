use Rattle.ls_outside.proofs.Noted.{bytes_of-noted}
use Rattle.ls_outside.proofs.sure.SureSinkSink.write.Goals as goal

pub returns-clause-takes : goal.returns-clause-takes
returns-clause-takes c = bytes_of-noted c.args.self.now.taken.pieces c.note.new.self.pieces c.args.bytes.now c.note.ensures
