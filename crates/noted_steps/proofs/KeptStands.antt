-- A macro that is kept while what is asked is noted: its edition is new, and it is the form's own.
use Rattle.std.proofs.Common.{ℕ, List, Bool, cond, Some, refl, ap, ◌∙◌}
use Rattle.scheme_model.specs.Ident.{Ident as Identifier}
use Rattle.scheme_model.specs.Identifiers.{Number}
use Rattle.scheme_model.specs.Meaning.{Local}
use Rattle.scheme_model.specs.Order.{Transformer}
use Rattle.scheme_model.specs.ScopedExpansion.{Frames, macro_at}
use Rattle.syntax_tree.specs.Names.{AreToldApart}
use Rattle.syntax_tree.specs.Meant.{IsMeaning}
use Rattle.syntax_tree.specs.declared.meaning.Meaning as code_meaning
use Rattle.syntax_tree.specs.declared.trees.Work.{Work}
use Rattle.unit_scopes.specs.Macros.{macro_in, same_key, numbered, IsBound, Keeps}
use Rattle.unit_scopes.specs.State.{IsMacro}
use Rattle.unit_scopes.specs.Stepped.{with_macros}
use Rattle.unit_scopes.specs.declared.macros.Macro.{Macro}
use Rattle.unit_scopes.specs.declared.macros.Macros.{Macros}
use Rattle.unit_scopes.specs.declared.scope.UnitScope.{UnitScope}
use Rattle.unit_scopes.proofs.KeptStands as plain
use Rattle.noted_steps.specs.Noting.{Noting, state_of}
use Rattle.noted_steps.specs.Standing.{Stands}
use Rattle.noted_steps.specs.Stepped.{kept}
use Rattle.noted_steps.proofs.NoteLaws.{plainly}
use Rattle.noted_steps.proofs.EditionLaws.{editions_beside, local_apart}

pub numbered_stands : (work : Work) (ls : List Frames) (k : Macro) (t : Transformer Frames Identifier) (n : ℕ) → IsMacro work ls k t → IsMacro work ls (numbered k n) t
numbered_stands work ls k t n h = plain.numbered_stands work ls k t n h

-- a local macro more, with the edition that it was given
pub kept_stands : (work : Work) (u : UnitScope) (ls : List Frames) (s : Noting) (ms : Macros) (c : code_meaning.Meaning) (v : Number) (k : Macro) (t : Transformer Frames Identifier) (n : ℕ) →
    AreToldApart work.symbols.idents → AreToldApart work.symbols.symbols → Keeps u.macros ms u.form.number c (numbered k n) → IsBound c → IsMeaning work.symbols s.unit s.form c (Local v) → IsMacro work ls k t →
    Stands work u ls s → Stands work (with_macros u ms) ls (kept (Local v) t s)
kept_stands work u ls s ms c v k t n apart told keeps bound means is e =
    let l = Local v in
    let p = plain.kept_stands work u ls (state_of s) ms c l (numbered k n) t apart told keeps bound means (plain.numbered_stands work ls k t n is) (plainly work u ls s e) in
    record {
      unit = p.unit;
      program = p.program;
      env = p.env;
      macros = p.macros;
      root = p.root;
      own = p.own;
      begun = p.begun;
      form = p.form;
      defined = p.defined;
      known = p.known;
      count = p.count;
      made = e.made;
      since_unit = e.since_unit;
      since_form = e.since_form;
      editions = λ exact. editions_beside work.symbols apart told u.macros ms s (kept l t s) s.form c l bound means refl refl
          (λ g d other. keeps g d ∙ ap (λ (q : Bool). cond q (Some (numbered k n)) (macro_in u.macros g d)) (ap (λ (f : ℕ). same_key f c g d) e.form.number ∙ other)) (local_apart s.since v)
          (λ m other. ap (λ (q : Bool). cond q (Some t) (macro_at s.macros m)) other) (e.editions exact);
      notes = e.notes;
      start = e.start;
    }
