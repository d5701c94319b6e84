use Rattle.note_answers.proofs.EditionsKept.{edition_kept, one_made}
use Rattle.note_answers.proofs.laws.editions_go_on.Goals as goal

pub returns : goal.returns
returns c = record {
  kept = λ work u v r before x m can each on note outside told. edition_kept work u v r before can each on x.question m note.1 outside told;
  made = λ before old new form editions d on others made. one_made before old new form editions d on others made;
}
