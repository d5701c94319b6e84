-- Where a unit doesn't go on, numbers that agree with the pairs may not give it the number of a unit that is new, computed: the identifier
-- that is asked would then mean what the new unit defines.
use Rattle.std.proofs.Common.{◌≡◌, List, [], ◌∷◌, true, false, None, refl}
use Rattle.std.specs.Prelude.{codes}
use Rattle.scheme_model.specs.Ident.{Written}
use Rattle.scheme_model.specs.Substitution.{Table}
use Rattle.scheme_model.specs.Questions.{Around, Moment, Question, LooksUp, answer}
use Rattle.renumbering_laws.specs.Renumbering.{Renumbering}
use Rattle.renumbering_laws.specs.Asked.{new_moment, new_question, new_answer}
use Rattle.carried_forms.specs.Alike.{same_answer}
use Rattle.carried_forms.specs.Paired.{UnitPair, renumbering}
use Rattle.carried_forms.specs.Carried.{has_same_answer}

-- in a program that is unit 0
abbrev around : Table → Around
around t = record {
  state = record { unit = 0; program = true; form = 0; locals = λ f. 0; uses = λ f. 0; nodes = λ f. 0; bodies = λ f. 0; keywords = λ f. []; met = λ f. []; table = t; entry = λ u s. None; macros = []; places = []; definitions = [] };
  known = λ n. false;
  notes = [];
}

-- before, unit 1 defines nothing; after, another unit 1 defines x
abbrev before : Around
before = around []

abbrev after : Around
after = around (record { unit = 1; form = 0; ident = Written 1 (codes "x"); keyword = false; occ = None } ∷ [])

abbrev moment : Moment
moment = record { locals = 0; uses = 0; nodes = 0; bodies = 0; keywords = []; met = []; table = []; macros = []; places = []; definitions = [] }

-- what x of unit 1 means
abbrev question : Question
question = LooksUp (Written 1 (codes "x"))

-- unit 0 goes on as itself
abbrev pairs : List UnitPair
pairs = record { before = 0; after = 0; size = 1; forms = (0, 0) ∷ [] } ∷ []

-- all numbers stay
abbrev kept : Renumbering
kept = record { unit = λ u. u; form = λ u f. f; definition = λ u n. n }

agree : (kept.unit 0 ≡ (renumbering pairs).unit 0) × (kept.form 0 0 ≡ (renumbering pairs).form 0 0)
agree = (refl, refl)

same_up_to_pairs : has_same_answer (renumbering pairs) before after (moment, question) ≡ true
same_up_to_pairs = refl

other_where_numbers_stay : same_answer (new_answer kept (answer before moment question)) (answer after (new_moment kept moment) (new_question kept question)) ≡ false
other_where_numbers_stay = refl
