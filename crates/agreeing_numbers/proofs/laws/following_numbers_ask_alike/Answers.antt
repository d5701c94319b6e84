use Rattle.agreeing_numbers.proofs.Following.{follow_alike}
use Rattle.agreeing_numbers.proofs.laws.following_numbers_ask_alike.Goals as goal

pub returns : goal.returns
returns c = λ ds r q b follows n m f g at worked form tree alike. follow_alike ds r q b follows n m f g at worked form tree alike
