-- What is known of the noted questions of a form that is declared again.
use Rattle.std.proofs.Common.{◌≡◌, List, [], length, refl, sym, subst}
use Rattle.scheme_model.specs.Substitution.{Table}
use Rattle.scheme_model.specs.Questions.{Moment, Around, Question}
use Rattle.scheme_model.specs.FormsAlike.{questions_of_pass}
use Rattle.form_laws.specs.Begins.{Each}
use Rattle.form_laws.proofs.OwnStates.{entry_given}
use Rattle.question_laws.proofs.NotedFirst.{all_or, IsFirstOr}
use Rattle.forgotten_locals.specs.Outside.{macros_outside}
use Rattle.note_laws.specs.Moments.{IsEnd, IsBefore}
use Rattle.note_laws.proofs.MomentsGrow.{pass_grows, noted_before, moments_told}
use Rattle.declared_again.specs.Endings.{Made, MadeAtEach, endings, macros_made}
use Rattle.declared_again.proofs.EndingSides.{made_by_then}
use Rattle.declared_again.proofs.OwnNotes.{made_in_order}
use Rattle.declared_again.proofs.RootMoments.{stays_at_root}
use Rattle.declared_parts.specs.Again.{Again, moment_of, own_notes, noted_of, ComesAgain}
use Rattle.declared_parts.proofs.NextMoments.{end_itself, IfDefinition, all_are, HasLast, last_made}

module _ (x : Again) (c : ComesAgain x) where
  abbrev w : Around
  w = x.before

  abbrev asked : List (Moment × Question)
  asked = questions_of_pass w x.turns x.tree

  made : Made w (moment_of x) (endings asked) × MadeAtEach w asked
  made = made_by_then w x.turns x.tree

  grows : Each (λ (q : Moment × Question). IsBefore q.0 (moment_of x)) asked
  grows = pass_grows w (λ u s. entry_given (w.state.entry u s) (c.entries_before u s)) x.turns x.tree

  -- each is before the form's last moment
  pub befores : Each (λ (q : Moment × Question). IsBefore q.0 (moment_of x)) (noted_of x)
  befores = noted_before w (moment_of x) asked grows

  -- it is asked when the form begins, or the form's definitions have a part in it
  pub firsts : Each (IsFirstOr w) (noted_of x)
  firsts = all_or w asked

  pub definitions : Each (IfDefinition w (moment_of x) (own_notes x)) (noted_of x)
  definitions =
      all_are w (moment_of x) (own_notes x) asked (own_notes x) made.1 (made_in_order w x.turns x.tree) ([], refl)
      (subst (λ (t : Table). IsEnd t (moment_of x).table) made.0.0 (end_itself (moment_of x).table))
      (subst (λ ks. IsEnd ks (macros_outside (moment_of x).macros)) made.0.1 (end_itself (macros_outside (moment_of x).macros)))
      (stays_at_root w c.frames x.turns x.tree).1 grows

  -- the last definition is among them
  pub last : HasLast w (noted_of x) (moment_of x).table (macros_outside (moment_of x).macros)
  last =
      subst (HasLast w (noted_of x) (moment_of x).table) (sym made.0.1)
      (subst (λ (t : Table). HasLast w (noted_of x) t (macros_made w (endings asked))) (sym made.0.0) (last_made w asked made.1))

-- as many definitions are the same
pub as_many : (m n k : Moment) → IsBefore n m → IsBefore k m → length n.table ≡ length k.table → (n.table ≡ k.table) × (macros_outside n.macros ≡ macros_outside k.macros)
as_many m n k a b h = moments_told n k m a b h
