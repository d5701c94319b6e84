use Rattle.included_forms.proofs.ServeLaws.{serve}
use Rattle.included_forms.proofs.laws.texts_serve.Goals as goal

pub returns : goal.returns
returns c = serve
