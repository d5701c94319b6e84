-- The definitions that are noted of a form: where each is made, in view of which notes, and that the moment behind one that stands is before the
-- form's last.
use Rattle.std.proofs.Common.{◌≡◌, ◌⊎◌, inl, inr, zero, suc, List, [], ◌∷◌, ◌++◌, length, Bool, true, false, cond, Option, Some, None, append_assoc, Contains, refl, sym, ap, ◌∙◌, subst, arith}
use Rattle.std.proofs.lemmas.List.Elements.{Contains-append_right}
use Rattle.scheme_model.specs.Ident.{Ident}
use Rattle.scheme_model.specs.ExpansionFaults.{Named}
use Rattle.scheme_model.specs.Meaning.{Global}
use Rattle.scheme_model.specs.RulesShape.{Rules}
use Rattle.scheme_model.specs.Order.{Note, is_some}
use Rattle.scheme_model.specs.Substitution.{Defined, Table}
use Rattle.scheme_model.specs.ScopedExpansion.{Frames, FramedIdent, ScopedMacro}
use Rattle.scheme_model.specs.Questions.{Moment, Around, found, Outcome, Stands, Redefines, StoodBefore, Question, LooksUp, UsesRules, Compares, IsAssigned, Requires, Defines, unit_outcome}
use Rattle.form_laws.specs.Begins.{Each}
use Rattle.question_laws.specs.Noted.{noted_as, noted, all_noted}
use Rattle.forgotten_locals.specs.Outside.{macros_outside}
use Rattle.note_laws.specs.Moments.{IsEnd, IsBefore, keyword_count}
use Rattle.declared_again.specs.Endings.{Ending, endings, ending_in, table_if, macros_if, table_made, macros_made, MadeAtEach, IsEarlier, MadeInOrder, AtRoot}
use Rattle.declared_parts.proofs.EachLaws.{each_both}

-- ---- ends of lists

pub end_itself : {X : Type 0} (xs : List X) → IsEnd xs xs
end_itself xs = ([], refl)

pub end_behind : {X : Type 0} (x : X) (xs ys : List X) → IsEnd (x ∷ xs) ys → IsEnd xs ys
end_behind x xs ys h = (h.0 ++ x ∷ [], h.1 ∙ sym (append_assoc h.0 (x ∷ []) xs))

end_of : {X : Type 0} (xs zs ys : List X) → xs ≡ zs → IsEnd xs ys → IsEnd zs ys
end_of xs zs ys e h = subst (λ l. IsEnd l ys) e h

pub earlier_on : (ns ms ls : List (Note FramedIdent)) → IsEarlier ns ms → IsEarlier ms ls → IsEarlier ns ls
earlier_on ns ms ls h k = (k.0 ++ h.0, k.1 ∙ (ap (λ l. k.0 ++ l) h.1 ∙ sym (append_assoc k.0 h.0 ns)))

-- ---- what a definition makes

module _ (w : Around) (e : Ending) where
  table_before : (o : Outcome) (ts zs : Table) → IsEnd (table_if o w e ts) zs → IsEnd ts zs
  table_before Stands ts zs h = end_behind (record { unit = w.state.unit; form = w.state.form; ident = e.name.name; keyword = is_some e.rules; occ = e.name.occ }) ts zs h
  table_before Redefines ts zs h = h
  table_before StoodBefore ts zs h = h

  macros_before_rules : (r : Option (Rules Ident)) (ks zs : List ScopedMacro) → IsEnd (macros_if Stands w (record e { rules = r }) ks) zs → IsEnd ks zs
  macros_before_rules None ks zs h = h
  macros_before_rules (Some r) ks zs h = end_behind (record { meaning = Global w.state.unit e.name.name; frames = e.frames; rules = r }) ks zs h

  macros_before : (o : Outcome) (ks zs : List ScopedMacro) → IsEnd (macros_if o w e ks) zs → IsEnd ks zs
  macros_before Stands ks zs h = macros_before_rules e.rules ks zs h
  macros_before Redefines ks zs h = h
  macros_before StoodBefore ks zs h = h

pub found_macros : (w : Around) (x : Named Ident) (r : Option (Rules Ident)) (fs : Frames) (n : Moment) (ks : List ScopedMacro) → macros_outside n.macros ≡ ks →
    macros_outside (found w None x r fs n).macros ≡ macros_if Stands w (record { moment = n; frames = fs; name = x; rules = r; notes = [] }) ks
found_macros w x None fs n ks e = e
found_macros w x (Some r) fs n ks e = ap (λ l. record { meaning = Global w.state.unit x.name; frames = fs; rules = r } ∷ l) e

found_counts : (w : Around) (x : Named Ident) (r : Option (Rules Ident)) (fs : Frames) (n : Moment) → length (macros_outside n.macros) ≡ keyword_count n.table →
    length (macros_outside (found w None x r fs n).macros) ≡ keyword_count (found w None x r fs n).table
found_counts w x None fs n e = e
found_counts w x (Some r) fs n e = ap suc e

-- ---- each of them

-- a definition in the unit itself, with nothing around it, in view of notes that the form has in the end
pub record IsDefinitionIn (w : Around) (m : Moment) (own : List (Note FramedIdent)) (n : Moment) (fs : Frames) (x : Named Ident) (r : Option (Rules Ident)) (ns : List (Note FramedIdent)) : Type 0 where
  pub frames : fs ≡ []
  pub notes : IsEarlier ns own
  pub root : AtRoot n
  pub next : unit_outcome w n fs x r ns ≡ Stands → IsBefore (found w None x r fs n) m

abbrev pub IfDefinition : Around → Moment → List (Note FramedIdent) → Moment × Question → Type 0
IfDefinition w m own (n, LooksUp i) = Unit {0}
IfDefinition w m own (n, UsesRules k) = Unit {0}
IfDefinition w m own (n, Compares l i) = Unit {0}
IfDefinition w m own (n, IsAssigned i) = Unit {0}
IfDefinition w m own (n, Requires l) = Unit {0}
IfDefinition w m own (n, Defines fs x r ns) = IsDefinitionIn w m own n fs x r ns

module _ (w : Around) (m : Moment) (own : List (Note FramedIdent)) where
  abbrev P : Moment × Question → Type 0
  P = IfDefinition w m own

  none_of : (alone part : Bool) (now : Moment × Question) (before : Question) → P now → ((n : Moment) → P (n, before)) → Each P (noted_as w alone part now before)
  none_of true part now before h k = tt
  none_of false true now before h k = (h, tt)
  none_of false false now before h k = (k _, tt)

  one_if : (b : Bool) (q : Moment × Question) → P q → Each P (cond b [] (q ∷ []))
  one_if true q h = tt
  one_if false q h = (h, tt)

  module _ (n : Moment) (e : Ending) (at : e.moment ≡ n) where
    stood : (ts : Table) → n.table ≡ ts → IsEnd (table_if (ending_in w e) w e ts) m.table → ending_in w e ≡ Stands → IsEnd (found w None e.name e.rules e.frames n).table m.table
    stood ts told h o =
        let d : Defined = record { unit = w.state.unit; form = w.state.form; ident = e.name.name; keyword = is_some e.rules; occ = e.name.occ } in
        end_of (d ∷ ts) (d ∷ n.table) m.table (ap (λ l. d ∷ l) (sym told)) (subst (λ (x : Outcome). IsEnd (table_if x w e ts) m.table) o h)

    kept : (ks : List ScopedMacro) → macros_outside n.macros ≡ ks → IsEnd (macros_if (ending_in w e) w e ks) (macros_outside m.macros) → ending_in w e ≡ Stands → IsEnd (macros_outside (found w None e.name e.rules e.frames n).macros) (macros_outside m.macros)
    kept ks told h o = end_of (macros_if Stands w e ks) (macros_outside (found w None e.name e.rules e.frames n).macros) (macros_outside m.macros) (sym (found_macros w e.name e.rules e.frames n ks told)) (subst (λ (x : Outcome). IsEnd (macros_if x w e ks) (macros_outside m.macros)) o h)

  pub all_are : (qs : List (Moment × Question)) (ms : List (Note FramedIdent)) → MadeAtEach w qs → MadeInOrder (endings qs) ms → IsEarlier ms own → IsEnd (table_made w (endings qs)) m.table → IsEnd (macros_made w (endings qs)) (macros_outside m.macros) →
      Each (λ (q : Moment × Question). AtRoot q.0) qs → Each (λ (q : Moment × Question). IsBefore q.0 m) qs → Each P (all_noted w qs)
  all_are [] ms made order early table macros root before = tt
  all_are ((n, LooksUp i) ∷ qs) ms made order early table macros root before = each_both P (noted w (n, LooksUp i)) (all_noted w qs) (none_of _ _ (n, LooksUp i) _ tt (λ k. tt)) (all_are qs ms made.1 order early table macros root.1 before.1)
  all_are ((n, UsesRules k) ∷ qs) ms made order early table macros root before = each_both P (noted w (n, UsesRules k)) (all_noted w qs) (one_if _ _ tt) (all_are qs ms made.1 order early table macros root.1 before.1)
  all_are ((n, Compares l i) ∷ qs) ms made order early table macros root before = each_both P (noted w (n, Compares l i)) (all_noted w qs) (none_of _ _ (n, Compares l i) _ tt (λ k. tt)) (all_are qs ms made.1 order early table macros root.1 before.1)
  all_are ((n, IsAssigned i) ∷ qs) ms made order early table macros root before = each_both P (noted w (n, IsAssigned i)) (all_noted w qs) (one_if _ _ tt) (all_are qs ms made.1 order early table macros root.1 before.1)
  all_are ((n, Requires l) ∷ qs) ms made order early table macros root before = (tt, all_are qs ms made.1 order early table macros root.1 before.1)
  all_are ((n, Defines fs x r ns) ∷ qs) ms made order early table macros root before =
      let e : Ending = record { moment = n; frames = fs; name = x; rules = r; notes = ns } in
      let ts = table_made w (endings qs) in let ks = macros_made w (endings qs) in
      let notes = earlier_on ns ms own order.1 early in (
        record {
          frames = order.0;
          notes = notes;
          root = root.0;
          next = λ o. record {
            table = stood n e refl ts made.0.0 table o;
            macros = kept n e refl ks made.0.1 macros o;
            counts = found_counts w x r fs n before.0.counts;
          };
        },
        all_are qs ns made.1 order.2 notes (table_before w e (ending_in w e) ts m.table table) (macros_before w e (ending_in w e) ks (macros_outside m.macros) macros) root.1 before.1,
      )

-- ---- the last of them

abbrev pub IsLast : Around → Table → List ScopedMacro → Moment × Question → Type 0
IsLast w ts ks (n, LooksUp i) = ⊥
IsLast w ts ks (n, UsesRules k) = ⊥
IsLast w ts ks (n, Compares l i) = ⊥
IsLast w ts ks (n, IsAssigned i) = ⊥
IsLast w ts ks (n, Requires l) = ⊥
IsLast w ts ks (n, Defines fs x r ns) = (unit_outcome w n fs x r ns ≡ Stands) × (suc (length n.table) ≡ length ts) × (macros_outside (found w None x r fs n).macros ≡ ks)

module _ (w : Around) where
  abbrev pub HasLast : List (Moment × Question) → Table → List ScopedMacro → Type 0
  HasLast qs ts ks = ((length ts ≡ 0) × (ks ≡ [])) ⊎ ((q : Moment × Question) × Contains qs q × IsLast w ts ks q)

  among : (qs rs : List (Moment × Question)) (ts : Table) (ks : List ScopedMacro) → HasLast rs ts ks → HasLast (qs ++ rs) ts ks
  among qs rs ts ks (inl none) = inl none
  among qs rs ts ks (inr h) = inr (h.0, Contains-append_right qs rs h.0 h.1, h.2)

  ends_by : (n : Moment) (e : Ending) (qs : List (Moment × Question)) (ts : Table) (ks : List ScopedMacro) → n.table ≡ ts → macros_outside n.macros ≡ ks → HasLast qs ts ks → (o : Outcome) → unit_outcome w n e.frames e.name e.rules e.notes ≡ o →
      HasLast ((n, Defines e.frames e.name e.rules e.notes) ∷ qs) (table_if o w e ts) (macros_if o w e ks)
  ends_by n e qs ts ks told kept rest Stands o =
      inr ((n, Defines e.frames e.name e.rules e.notes), (zero, omega arith, refl), (o, ap (λ (l : Table). suc (length l)) told, found_macros w e.name e.rules e.frames n ks kept))
  ends_by n e qs ts ks told kept rest Redefines o = among ((n, Defines e.frames e.name e.rules e.notes) ∷ []) qs ts ks rest
  ends_by n e qs ts ks told kept rest StoodBefore o = among ((n, Defines e.frames e.name e.rules e.notes) ∷ []) qs ts ks rest

  -- nothing is made, or the last that stands is noted
  pub last_made : (qs : List (Moment × Question)) → MadeAtEach w qs → HasLast (all_noted w qs) (table_made w (endings qs)) (macros_made w (endings qs))
  last_made [] made = inl (refl, refl)
  last_made ((n, LooksUp i) ∷ qs) made = among (noted w (n, LooksUp i)) (all_noted w qs) (table_made w (endings qs)) (macros_made w (endings qs)) (last_made qs made.1)
  last_made ((n, UsesRules k) ∷ qs) made = among (noted w (n, UsesRules k)) (all_noted w qs) (table_made w (endings qs)) (macros_made w (endings qs)) (last_made qs made.1)
  last_made ((n, Compares l i) ∷ qs) made = among (noted w (n, Compares l i)) (all_noted w qs) (table_made w (endings qs)) (macros_made w (endings qs)) (last_made qs made.1)
  last_made ((n, IsAssigned i) ∷ qs) made = among (noted w (n, IsAssigned i)) (all_noted w qs) (table_made w (endings qs)) (macros_made w (endings qs)) (last_made qs made.1)
  last_made ((n, Requires l) ∷ qs) made = among (noted w (n, Requires l)) (all_noted w qs) (table_made w (endings qs)) (macros_made w (endings qs)) (last_made qs made.1)
  last_made ((n, Defines fs x r ns) ∷ qs) made =
      ends_by n (record { moment = n; frames = fs; name = x; rules = r; notes = ns }) (all_noted w qs) (table_made w (endings qs)) (macros_made w (endings qs)) made.0.0 made.0.1 (last_made qs made.1) (unit_outcome w n fs x r ns) refl
