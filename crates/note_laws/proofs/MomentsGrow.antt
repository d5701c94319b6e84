-- What a form has defined in its unit by a moment, with the macros of it, is the end of what it has defined later.
use Rattle.std.proofs.Common.{◌≡◌, ℕ, suc, List, [], ◌∷◌, ◌++◌, length, Bool, true, false, cond, Option, Some, None, refl, sym, ap, ◌∙◌, subst, arith}
use Rattle.std.specs.Prelude.{◌||◌, ◌≤◌}
use Rattle.std.proofs.lemmas.List.{append-nil}
use Rattle.scheme_model.specs.Identifiers.{Number}
use Rattle.scheme_model.specs.Ident.{Ident}
use Rattle.scheme_model.specs.Trees.{Tree}
use Rattle.scheme_model.specs.ExpansionFaults.{Named}
use Rattle.scheme_model.specs.RulesShape.{Rules}
use Rattle.scheme_model.specs.Order.{Pending, Asked, is_some}
use Rattle.scheme_model.specs.Substitution.{Table}
use Rattle.scheme_model.specs.ScopedExpansion.{Frames, FramedIdent, ScopedMacro, body_around, macro_at}
use Rattle.scheme_model.specs.Questions.{Moment, Around, Outcome, Stands, Redefines, StoodBefore, outcome, Question, LooksUp, UsesRules, Compares, IsAssigned, Requires, Defines, left_to_ask, dated, all_left, in_unit, Asking, ended, asking}
use Rattle.scheme_model.specs.FormsAlike.{start, set_aside_asking, questions_of_pass}
use Rattle.form_laws.specs.Begins.{Each}
use Rattle.form_laws.proofs.AskingSides.{NoLocals}
use Rattle.forgotten_locals.specs.Outside.{macros_outside}
use Rattle.question_laws.specs.Noted.{before_uses, is_defined_in, defines_within, answers_alone, compares_alone, noted_as, noted, all_noted}
use Rattle.question_laws.proofs.AskingRuns.{Invariant, pass_holds}
use Rattle.note_laws.specs.Moments.{IsEnd, keyword_count, IsBefore}

each_append : {X : Type 0} (P : X → Type 0) (xs ys : List X) → Each P xs → Each P ys → Each P (xs ++ ys)
each_append P [] ys h k = k
each_append P (x ∷ xs) ys h k = (h.0, each_append P xs ys h.1 k)

each_more : {X : Type 0} (P Q : X → Type 0) → ((x : X) → P x → Q x) → (xs : List X) → Each P xs → Each Q xs
each_more P Q f [] h = tt
each_more P Q f (x ∷ xs) h = (f x h.0, each_more P Q f xs h.1)

one_longer : {X : Type 0} (y : X) (xs ys : List X) → IsEnd xs ys → IsEnd xs (y ∷ ys)
one_longer y xs ys e = (y ∷ e.0, ap (λ zs. y ∷ zs) e.1)

-- ---- ends of one list

tail_or : {X : Type 0} → List X → List X
tail_or [] = []
tail_or (x ∷ xs) = xs

longer : {X : Type 0} (zs xs : List X) → length xs ≤ length (zs ++ xs)
longer [] xs = omega arith
longer (z ∷ zs) xs = let h = longer zs xs in omega (arith, h)

end_same : {X : Type 0} (cs bs xs ys : List X) → cs ++ xs ≡ bs ++ ys → length xs ≡ length ys → xs ≡ ys
unfolding tail_or
end_same [] [] xs ys e h = e
end_same {X} [] (b ∷ bs) xs ys e h =
    let l : length xs ≡ suc (length (bs ++ ys)) = ap (λ (zs : List X). length zs) e in
    let k = longer bs ys in absurd (omega (arith, l, k, h))
end_same {X} (c ∷ cs) [] xs ys e h =
    let l : suc (length (cs ++ xs)) ≡ length ys = ap (λ (zs : List X). length zs) e in
    let k = longer cs xs in absurd (omega (arith, l, k, h))
end_same (c ∷ cs) (b ∷ bs) xs ys e h = end_same cs bs xs ys (ap tail_or e) h

pub moments_told : (k n m : Moment) → IsBefore k m → IsBefore n m → length k.table ≡ length n.table → (k.table ≡ n.table) × (macros_outside k.macros ≡ macros_outside n.macros)
moments_told k n m a b h =
    let t = end_same a.table.0 b.table.0 k.table n.table (sym a.table.1 ∙ b.table.1) h in
    (t, end_same a.macros.0 b.macros.0 (macros_outside k.macros) (macros_outside n.macros) (sym a.macros.1 ∙ b.macros.1) (a.counts ∙ (ap keyword_count t ∙ sym b.counts)))

module _ (w : Around) where
  Counted : Moment → Type 0
  Counted n = length (macros_outside n.macros) ≡ keyword_count n.table

  itself : (n : Moment) → Counted n → IsBefore n n
  unfolding Counted
  itself n h = record { table = ([], refl); macros = ([], refl); counts = h }

  abbrev Grows : Asking → Type 0
  Grows s = IsBefore s.moment s.moment × Each (λ (q : Moment × Question). IsBefore q.0 s.moment) s.asked

  same_before : (k n m : Moment) → m.table ≡ n.table → m.macros ≡ n.macros → IsBefore k n → IsBefore k m
  same_before k n m a b h = record {
    table = subst (λ (ds : Table). IsEnd k.table ds) (sym a) h.table;
    macros = subst (λ (ks : List ScopedMacro). IsEnd (macros_outside k.macros) (macros_outside ks)) (sym b) h.macros;
    counts = h.counts;
  }

  same_itself : (n m : Moment) → m.table ≡ n.table → m.macros ≡ n.macros → IsBefore n n → IsBefore m m
  same_itself n m a b h = record {
    table = ([], refl);
    macros = ([], refl);
    counts = ap (λ (ks : List ScopedMacro). length (macros_outside ks)) b ∙ (h.counts ∙ ap keyword_count (sym a));
  }

  still : (s u : Asking) → u.moment.table ≡ s.moment.table → u.moment.macros ≡ s.moment.macros → u.asked ≡ s.asked → Grows s → Grows u
  still s u a b c h = (
    same_itself s.moment u.moment a b h.0,
    subst (λ (qs : List (Moment × Question)). Each (λ (q : Moment × Question). IsBefore q.0 u.moment) qs) (sym c)
        (each_more (λ (q : Moment × Question). IsBefore q.0 s.moment) (λ (q : Moment × Question). IsBefore q.0 u.moment) (λ q k. same_before q.0 s.moment u.moment a b k) s.asked h.1),
  )

  further : (n m : Moment) (qs : List (Moment × Question)) → ((k : Moment) → IsBefore k n → IsBefore k m) → Counted m → Grows (record { moment = n; asked = qs }) → Grows (record { moment = m; asked = qs })
  further n m qs f c h = (itself m c, each_more (λ (q : Moment × Question). IsBefore q.0 n) (λ (q : Moment × Question). IsBefore q.0 m) (λ q k. f q.0 k) qs h.1)

  -- ---- questions

  each_dated : (n : Moment) → IsBefore n n → (xs : List Question) → Each (λ (q : Moment × Question). IsBefore q.0 n) (dated n xs)
  each_dated n h [] = tt
  each_dated n h (x ∷ xs) = (h, each_dated n h xs)

  each_left : (n : Moment) → IsBefore n n → (xs : List (Asked Frames Ident)) → Each (λ (q : Moment × Question). IsBefore q.0 n) (all_left n xs)
  each_left n h [] = tt
  each_left n h (a ∷ xs) = each_append (λ (q : Moment × Question). IsBefore q.0 n) (dated n (left_to_ask n a)) (all_left n xs) (each_dated n h (left_to_ask n a)) (each_left n h xs)

  asked : (n : Moment) (ps qs : List (Moment × Question)) → Each (λ (q : Moment × Question). IsBefore q.0 n) ps → Grows (record { moment = n; asked = qs }) → Grows (record { moment = n; asked = ps ++ qs })
  asked n ps qs h k = (k.0, each_append (λ (q : Moment × Question). IsBefore q.0 n) ps qs h k.1)

  -- ---- definitions

  module _ (fs : Frames) (x : Named Ident) (p : Pending Ident FramedIdent) (n : Moment) where
    in_unit_on : (r : Option (Rules Ident)) (o : Outcome) (qs : List (Moment × Question)) → Grows (record { moment = n; asked = qs }) → Grows (record { moment = (ended o w None x r fs p n).1; asked = qs })
    unfolding Counted
    in_unit_on r Redefines qs h = h
    in_unit_on r StoodBefore qs h = h
    in_unit_on None Stands qs h = further n _ qs (λ k b. record { table = one_longer _ k.table n.table b.table; macros = b.macros; counts = b.counts }) h.0.counts h
    in_unit_on (Some rules) Stands qs h =
        further n _ qs (λ k b. record { table = one_longer _ k.table n.table b.table; macros = one_longer _ (macros_outside k.macros) (macros_outside n.macros) b.macros; counts = b.counts }) (ap suc h.0.counts) h

    in_body_on : (r : Option (Rules Ident)) (b : Number) (o : Outcome) (qs : List (Moment × Question)) → Grows (record { moment = n; asked = qs }) → Grows (record { moment = (ended o w (Some b) x r fs p n).1; asked = qs })
    unfolding Counted
    in_body_on r b Redefines qs h = h
    in_body_on r b StoodBefore qs h = h
    in_body_on None b Stands qs h = further n _ qs (λ k z. record { table = z.table; macros = z.macros; counts = z.counts }) h.0.counts h
    in_body_on (Some rules) b Stands qs h = further n _ qs (λ k z. record { table = z.table; macros = z.macros; counts = z.counts }) h.0.counts h

    defined : (r : Option (Rules Ident)) (b : Option Number) (o : Outcome) (qs : List (Moment × Question)) → Grows (record { moment = n; asked = qs })
        → Grows (record { moment = (ended o w b x r fs p n).1; asked = dated n (in_unit b (Defines fs x r p.notes)) ++ qs })
    defined r None o qs h = in_unit_on r o ((n, Defines fs x r p.notes) ∷ qs) (asked n ((n, Defines fs x r p.notes) ∷ []) qs (h.0, tt) h)
    defined r (Some b) o qs h = in_body_on r b o qs h

  -- ---- the run

  kept : (s : Asking) (v : Number) (r : Rules Ident) (fs : Frames) → Grows s → Grows ((asking w).keep v r fs s)
  unfolding Counted
  kept s v r fs h = further s.moment _ s.asked (λ k z. record { table = z.table; macros = z.macros; counts = z.counts }) h.0.counts h

  grows : Invariant w
  grows = record {
    holds = Grows;
    defines = λ fs. Unit {0};
    still = λ s u a b c h. still s u a b c h;
    asks = λ s qs h. asked s.moment (all_left s.moment qs) s.asked (each_left s.moment h.0 qs) h;
    keeps = λ s v r fs h. kept s v r fs h;
    makes = λ s fs d x r p h. defined fs x p s.moment r (body_around fs) (outcome w s.moment (body_around fs) fs x r p.notes) s.asked h;
    inside = λ s fs ts. tt;
  }

  pub pass_grows : NoLocals w → (turns : ℕ) (t : Tree Ident) → Each (λ (q : Moment × Question). IsBefore q.0 (set_aside_asking w turns t).1.moment) (questions_of_pass w turns t)
  unfolding grows Counted
  pass_grows en turns t = let x : Grows (set_aside_asking w turns t).1 = pass_holds w en grows tt turns t (record { table = ([], refl); macros = ([], refl); counts = refl }, tt) in x.1

  -- ---- those that are noted

  start_before : (m : Moment) → IsBefore (start w.state) m
  start_before m = record { table = (m.table, sym (append-nil m.table)); macros = (macros_outside m.macros, sym (append-nil (macros_outside m.macros))); counts = refl }

  abbrev AllBefore : Moment → List (Moment × Question) → Type 0
  AllBefore m qs = Each (λ (q : Moment × Question). IsBefore q.0 m) qs

  as_before : (m : Moment) (alone part : Bool) (now : Moment × Question) (before : Question) → IsBefore now.0 m → AllBefore m (noted_as w alone part now before)
  as_before m true part now before h = tt
  as_before m false true now before h = (h, tt)
  as_before m false false now before h = (start_before m, tt)

  at_start_before : (m : Moment) (own : Bool) (q : Question) → AllBefore m (cond own [] ((start w.state, q) ∷ []))
  at_start_before m true q = tt
  at_start_before m false q = (start_before m, tt)

  one_before : (m n : Moment) (q : Question) → IsBefore n m → AllBefore m (noted w (n, q))
  one_before m n (LooksUp i) h = as_before m (answers_alone w.state n.table i) (defines_within n.table i) (n, LooksUp i) (LooksUp (before_uses w.state i)) h
  one_before m n (UsesRules x) h = at_start_before m (is_some (macro_at n.macros x)) (UsesRules x)
  one_before m n (Compares l i) h = as_before m (compares_alone w.state n.table l i) (defines_within n.table l || defines_within n.table i) (n, Compares l i) (Compares (before_uses w.state l) (before_uses w.state i)) h
  one_before m n (IsAssigned i) h = at_start_before m (is_defined_in n.table w.state.unit i) (IsAssigned i)
  one_before m n (Requires l) h = (start_before m, tt)
  one_before m n (Defines fs x r ns) h = (h, tt)

  pub noted_before : (m : Moment) (qs : List (Moment × Question)) → AllBefore m qs → AllBefore m (all_noted w qs)
  noted_before m [] h = tt
  noted_before m (q ∷ qs) h = each_append (λ (q : Moment × Question). IsBefore q.0 m) (noted w q) (all_noted w qs) (one_before m q.0 q.1 h.0) (noted_before m qs h.1)
