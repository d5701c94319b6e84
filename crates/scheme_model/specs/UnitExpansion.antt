-- The expansion of a unit's forms (R7RS 5.1, 5.3): first all are gone through in order, then what each set aside is
-- expanded. A fault ends its form alone; the definitions found before it stay. Work ends with the form, or the item that was set
-- aside, in which the forms' counts come to too many nodes together.
use Rattle.std.specs.Prelude.{ℕ, ◌+◌, nat_lt, List, [], ◌∷◌, map, Option, Some, None, Result, Ok, Err, if◌then◌else◌}
use Rattle.scheme_model.specs.Trees.{Tree}
use Rattle.scheme_model.specs.Cores.{Parts, no_parts, Part, part}
use Rattle.scheme_model.specs.Steps.{Broken, Step}
use Rattle.scheme_model.specs.Order.{Item, Left, Note, Pending, Ops, Counted, run, meet_all}
use Rattle.scheme_model.specs.Expression.{Expander, expand, item_part}

-- what a form came to, and what it counted
pub record Formed : Type 0 where
  pub form : ℕ
  pub result : Result Parts Broken
  pub counted : Counted

-- the most that cores may be nested
abbrev pub max_depth : ℕ
max_depth = 400

-- ---- where work ends

-- work from a state on: nothing comes of it where it ended
abbrev pub Work : Type 0 → Type 0 → Type 0
Work S X = S → Option X × S

infixl 10 ◌then◌
abbrev pub ◌then◌ : {S X Y : Type 0} → Option X × S → (X → Work S Y) → Option Y × S
(None, s) then f = (None, s)
(Some x, s) then f = f x s

abbrev pub going : {S X : Type 0} → X → Work S X
going x s = (Some x, s)

-- the most nodes that the forms of a unit count together
abbrev pub max_total : ℕ
max_total = 500000

-- what these forms have counted by now
abbrev pub nodes_in : {E A L S : Type 0} → Ops E A L S → List ℕ → S → ℕ
nodes_in ops [] s = 0
nodes_in ops (f ∷ fs) s = (ops.counted (ops.turn f s)).nodes + nodes_in ops fs s

-- work ends here where these forms have counted too many
abbrev pub unless_over : {E A L S X : Type 0} → Ops E A L S → List ℕ → X × S → Option X × S
unless_over ops fs q = if nat_lt max_total (nodes_in ops fs q.1) then (None, q.1) else (Some q.0, q.1)

-- ---- what the forms set aside

-- what is left of a form, by its number
abbrev pub LeftOf : Type 0 → Type 0
LeftOf A = ℕ × Result (Left A) Broken

abbrev pub one_form : {A L : Type 0} → Tree A → List (Note L) → Pending A L
one_form t notes = record { todo = record { here = None; tree = t } ∷ []; aside = []; uses = []; notes = notes }

-- the notes go through all forms
abbrev pub passes : {E A L S : Type 0} → Ops E A L S → ℕ → E → List ℕ → List (ℕ × Tree A) → List (Note L) → Work S (List (LeftOf A))
passes ops turns e fs [] notes s = going [] s
passes ops turns e fs (t ∷ ts) notes s =
    unless_over ops fs (run ops turns e (one_form t.1 notes) (ops.turn t.0 s)) then λ q t1. passes ops turns e fs ts q.notes t1 then λ rest. going ((t.0, q.left) ∷ rest)

-- ---- what they come to

abbrev pub with_part : Part → Result Parts Broken → Result Parts Broken
with_part p (Ok ps) = Ok (part p ps)
with_part p (Err e) = Err e

-- an item's part, and then those behind it
abbrev pub before_parts : {S : Type 0} → Work S (Result Parts Broken) → Result Part Broken → Work S (Result Parts Broken)
before_parts more (Err e) s = going (Err e) s
before_parts more (Ok p) s = more s then λ r. going (with_part p r)

-- a form's items in order, up to the first fault
abbrev pub items_parts : {E A L S : Type 0} → Ops E A L S → List ℕ → (Item A → Step S Part) → List (Item A) → Work S (Result Parts Broken)
items_parts ops fs f [] s = going (Ok no_parts) s
items_parts ops fs f (i ∷ is) s = unless_over ops fs (f i s) then before_parts (items_parts ops fs f is)

-- a form's macro uses are met, and what it set aside is expanded
abbrev pub form_parts : {E A L S : Type 0} → Ops E A L S → Expander E A S → E → List ℕ → Result (Left A) Broken → Work S (Result Parts Broken)
form_parts ops f e fs (Err b) s = going (Err b) s
form_parts ops f e fs (Ok l) s = items_parts ops fs (item_part f ops max_depth e) l.items (meet_all ops e l.uses s)

abbrev pub finished : {E A L S : Type 0} → Ops E A L S → Expander E A S → E → List ℕ → List (LeftOf A) → Work S (List Formed)
finished ops f e fs [] s = going [] s
finished ops f e fs (r ∷ rs) s =
    form_parts ops f e fs r.1 (ops.turn r.0 s) then λ parts t. finished ops f e fs rs t then λ rest. going (record { form = r.0; result = parts; counted = ops.counted t } ∷ rest)

-- ---- a unit

-- forms with their numbers, within these turns: what they came to, or nothing where work ended
abbrev pub unit : {E A L S : Type 0} → Ops E A L S → ℕ → E → List (ℕ × Tree A) → Work S (List Formed)
unit ops turns e ts s = let fs = map (λ t. t.0) ts in passes ops turns e fs ts [] s then finished ops (expand ops turns) e fs
