-- What a unit mentions is all one whether what is local is forgotten; and a form mentions what its noted questions do where it is expanded.
use Rattle.std.proofs.Common.{◌≡◌, ◌↔◌, ℕ, List, [], map, true, Option, Some, None, Result, Ok, Err, refl, sym, ap, ◌∙◌}
use Rattle.scheme_model.specs.Ident.{Ident, Written}
use Rattle.scheme_model.specs.Trees.{Tree}
use Rattle.scheme_model.specs.Requirements.{Known}
use Rattle.scheme_model.specs.Steps.{Broken}
use Rattle.scheme_model.specs.Order.{Left}
use Rattle.scheme_model.specs.Questions.{Around}
use Rattle.scheme_model.specs.FormsAlike.{bound_moved, start, set_aside_asking, questions_of_pass, questions_of_left}
use Rattle.scheme_model.specs.IncludedUnits.{Placed}
use Rattle.scheme_model.specs.Program.{Prepared, is_ready, enough_turns, forms_at_work}
use Rattle.scheme_model.specs.ScopedProgram.{ScopedProgress, forms_over, scoped_work, scoped_before, scoped_start_after}
use Rattle.form_laws.specs.Begins.{Each, Begins, FormBegins, LeftBegins, RestBegins}
use Rattle.question_laws.specs.Noted.{all_noted, IsClosed}
use Rattle.kept_forms.specs.KeptForms.{KeptForm, KeptParts, FormOrKept, LeftOrKept, form_of}
use Rattle.kept_forms.specs.Carried.{kept_aside, kept_parts, kept_form, no_counts}
use Rattle.kept_forms.proofs.Bares.{bare_around, answers_too, answers_itself}
use Rattle.kept_forms.proofs.MayBeKept.{kept_still}
use Rattle.kept_forms.proofs.OneForm.{moved_none}
use Rattle.kept_forms.proofs.Programs.{between_at, placed_at, new_unit}
use Rattle.forgotten_locals.specs.Outside.{macros_outside, around_outside}
use Rattle.forgotten_locals.specs.Ways.{anew, forgetting}
use Rattle.forgotten_locals.specs.Programs.{IsProgressOutside}
use Rattle.forgotten_locals.proofs.OneTurn.{pass_answers, left_answers}
use Rattle.forgotten_locals.proofs.Turns.{turns_in, turns_out}
use Rattle.forgotten_locals.proofs.Followed.{forgetting_follows}
use Rattle.forgotten_locals.proofs.Units.{begins, start_outside}
use Rattle.mentioned_units.specs.Mentioned.{Mask, NoteIn, Mentions, PassMentions, RestMentions, IsMentioned, IsRestMentioned, AllMentioned}
use Rattle.mentioned_units.proofs.Turns.{mentioned_kept, mentioned_rest}

-- ---- one turn

module _ (mask : Mask) (turns : ℕ) (v w : Around) (same : bare_around v ≡ bare_around (around_outside w)) where
  abbrev u : Around
  u = around_outside w

  unit_is : v.state.unit ≡ w.state.unit
  unit_is = ap (λ (z : Around). z.state.unit) same

  form_is : v.state.form ≡ w.state.form
  form_is = ap (λ (z : Around). z.state.form) same

  program_is : v.state.program ≡ w.state.program
  program_is = ap (λ (z : Around). z.state.program) same

  module _ (old : Around) (k : Begins w.state) where
    pass_in : (t : Tree Ident) → PassMentions mask old v turns t → PassMentions mask old w turns t
    pass_in t m =
        let h = m.stays in
        record {
          stays = record { unit = sym unit_is ∙ h.unit; form = sym form_is ∙ h.form; new = h.new; begun = h.begun; answers = (pass_answers old w turns h.begun.state k t).0 (answers_too v u (sym same) old (questions_of_pass old turns t) h.answers) };
          program = sym program_is ∙ m.program;
          closed = m.closed;
          mentions = m.mentions;
        }

    pass_out : (t : Tree Ident) → PassMentions mask old w turns t → PassMentions mask old v turns t
    pass_out t m =
        let h = m.stays in
        record {
          stays = record { unit = unit_is ∙ h.unit; form = form_is ∙ h.form; new = h.new; begun = h.begun; answers = answers_too u v same old (questions_of_pass old turns t) ((pass_answers old w turns h.begun.state k t).1 h.answers) };
          program = program_is ∙ m.program;
          closed = m.closed;
          mentions = m.mentions;
        }

    rest_in : (l : Left Ident) → RestMentions mask old v turns l → RestMentions mask old w turns l
    rest_in l m =
        let h = m.stays in
        record {
          stays = record { unit = sym unit_is ∙ h.unit; form = sym form_is ∙ h.form; begun = h.begun; answers = (left_answers old w turns h.begun.state k (Ok l)).0 (answers_too v u (sym same) old (questions_of_left old turns (Ok l)) h.answers) };
          program = sym program_is ∙ m.program;
          closed = m.closed;
          mentions = m.mentions;
        }

    rest_out : (l : Left Ident) → RestMentions mask old w turns l → RestMentions mask old v turns l
    rest_out l m =
        let h = m.stays in
        record {
          stays = record { unit = unit_is ∙ h.unit; form = form_is ∙ h.form; begun = h.begun; answers = answers_too u v same old (questions_of_left old turns (Ok l)) ((left_answers old w turns h.begun.state k (Ok l)).1 h.answers) };
          program = program_is ∙ m.program;
          closed = m.closed;
          mentions = m.mentions;
        }

  form_in : (t : Tree Ident) (o : Option KeptForm) → FormBegins w t → IsMentioned mask turns v t o → IsMentioned mask turns w t o
  form_in t None b h = h
  form_in t (Some k) b (old, h, e, n) = (old, pass_in old b.state t h, e, n)

  form_out : (t : Tree Ident) (o : Option KeptForm) → FormBegins w t → IsMentioned mask turns w t o → IsMentioned mask turns v t o
  form_out t None b h = h
  form_out t (Some k) b (old, h, e, n) = (old, pass_out old b.state t h, e, n)

  left_in : (r : Result (Left Ident) Broken) (o : Option KeptParts) → RestBegins w r → IsRestMentioned mask turns v r o → IsRestMentioned mask turns w r o
  left_in (Err x) None b h = h
  left_in (Err x) (Some k) b h = h
  left_in (Ok m) None b h = h
  left_in (Ok m) (Some k) b (old, l, from, to, h, e) = (old, l, from, to, rest_in old b.state l h, e)

  left_out : (r : Result (Left Ident) Broken) (o : Option KeptParts) → RestBegins w r → IsRestMentioned mask turns w r o → IsRestMentioned mask turns v r o
  left_out (Err x) None b h = h
  left_out (Err x) (Some k) b h = h
  left_out (Ok m) None b h = h
  left_out (Ok m) (Some k) b (old, l, from, to, h, e) = (old, l, from, to, rest_out old b.state l h, e)

-- ---- a unit

pub units_forgetting : (mask : Mask) (all : List Placed) (units : List Prepared) (known : Known) (n : ℕ) (h : ScopedProgress) (p : Prepared) (xs : List FormOrKept) →
    let g = scoped_work all units known n scoped_before in
    IsProgressOutside g h → is_ready all units g.results p ≡ true → map form_of xs ≡ forms_over (Written p.number) p.number 0 (forms_at_work p) →
    AllMentioned mask (forgetting enough_turns) enough_turns known xs (scoped_start_after all p h) ↔ AllMentioned mask (anew enough_turns) enough_turns known xs (scoped_start_after all p g)
units_forgetting mask all units known n h p xs o ready forms =
    let g = scoped_work all units known n scoped_before in
    let s = scoped_start_after all p h in let t = scoped_start_after all p g in
    let e = start_outside all units known g (between_at all units known n) (placed_at all units known n) p (new_unit all units known g p ready) xs forms h o in
    let b = begins all units known g (between_at all units known n) (placed_at all units known n) p (new_unit all units known g p ready) xs forms in
    let P : Around → FormOrKept → Type 0 = λ v (x : FormOrKept). IsMentioned mask enough_turns v x.tree x.kept in
    let P2 : Around → LeftOrKept → Type 0 = λ v (r : LeftOrKept). IsRestMentioned mask enough_turns v r.left r.kept in (
      λ k. (
        k.0,
        turns_in macros_outside (λ ps. []) (λ ds. []) enough_turns (forgetting enough_turns) (forgetting_follows enough_turns) known xs s t e b P P P2 P2
            (λ v x q. mentioned_kept mask enough_turns v x.tree x.kept q) (λ v r q. mentioned_rest mask enough_turns v r.left r.kept q)
            (λ v w x same c q. form_in mask enough_turns v w same x.tree x.kept c.0 q) (λ v w r same i c q. left_in mask enough_turns v w same r.left r.kept c.0 q) k.0 k.1,
      ),
      λ k. (
        k.0,
        turns_out macros_outside (λ ps. []) (λ ds. []) enough_turns (forgetting enough_turns) (forgetting_follows enough_turns) known xs s t e b P P P2 P2
            (λ v x q. mentioned_kept mask enough_turns v x.tree x.kept q) (λ v r q. mentioned_rest mask enough_turns v r.left r.kept q)
            (λ v w x same c q. form_out mask enough_turns v w same x.tree x.kept c.0 q) (λ v w r same i c q. left_out mask enough_turns v w same r.left r.kept c.0 q) k.0 k.1,
      ),
    )

-- ---- a form that is expanded

pub form_expanded : (mask : Mask) (v : Around) (turns : ℕ) (t : Tree Ident) (parts : Option KeptParts) → start v.state ≡ no_counts → FormBegins v t → IsClosed v.state → Each (Mentions mask v) (all_noted v (questions_of_pass v turns t)) → Each (NoteIn mask) (set_aside_asking v turns t).0.notes
    → IsMentioned mask turns v t (Some (kept_form (kept_aside v turns t) parts))
form_expanded mask v turns t parts new h closed m notes =
    (v, record { stays = record { unit = refl; form = refl; new = new; begun = h; answers = answers_itself v v refl (questions_of_pass v turns t) }; program = refl; closed = closed; mentions = m }, refl, notes)

pub rest_expanded : (mask : Mask) (v : Around) (turns n : ℕ) (l : Left Ident) → LeftBegins v l → IsClosed v.state → Each (Mentions mask v) (all_noted v (questions_of_left v turns (Ok l))) → IsRestMentioned mask turns v (Ok l) (Some (kept_parts v turns n l))
rest_expanded mask v turns n l h closed m = (
  v,
  l,
  n,
  n,
  record { stays = record { unit = refl; form = refl; begun = h; answers = answers_itself v v refl (questions_of_left v turns (Ok l)) }; program = refl; closed = closed; mentions = m },
  sym (kept_still (bound_moved n n) (moved_none n) (kept_parts v turns n l)),
)
