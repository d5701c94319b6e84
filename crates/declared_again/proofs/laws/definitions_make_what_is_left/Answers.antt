use Rattle.scheme_model.specs.FormsAlike.{set_aside_asking}
use Rattle.declared_again.specs.Endings.{endings}
use Rattle.declared_again.proofs.EndingSides.{made_by_then}
use Rattle.declared_again.proofs.MadeAgain.{moment_is_made, each_is_made}
use Rattle.declared_again.proofs.laws.definitions_make_what_is_left.Goals as goal

pub returns : goal.returns
returns c = record {
  made = λ w turns t. made_by_then w turns t;
  again = λ w v turns t unit form.
      let q = (set_aside_asking w turns t).1 in
      let told = made_by_then w turns t in
      (moment_is_made w v q.moment (endings q.asked) told.0 unit form, each_is_made w v q.asked told.1 unit form);
}
