-- What holds of each of a list, and of either branch of a test.
use Rattle.std.proofs.Common.{List, [], ◌∷◌, ◌++◌, map, filter, Bool, true, false, if◌then◌else◌}
use Rattle.program_laws.specs.Turns.{Each}

pub each_of : {X : Type 0} (P Q : X → Type 0) (xs : List X) → Each P xs → ((x : X) → P x → Q x) → Each Q xs
each_of P Q [] h g = tt
each_of P Q (x ∷ xs) h g = (g x h.0, each_of P Q xs h.1 g)

pub each_map : {X Y : Type 0} (P : X → Type 0) (Q : Y → Type 0) (f : X → Y) (xs : List X) → Each P xs → ((x : X) → P x → Q (f x)) → Each Q (map f xs)
each_map P Q f [] h g = tt
each_map P Q f (x ∷ xs) h g = (g x h.0, each_map P Q f xs h.1 g)

pub each_both : {X : Type 0} (P : X → Type 0) (xs ys : List X) → Each P xs → Each P ys → Each P (xs ++ ys)
each_both P [] ys h k = k
each_both P (x ∷ xs) ys h k = (h.0, each_both P xs ys h.1 k)

pub one_of_two : {X : Type 0} (P : X → Type 0) (b : Bool) (x y : X) → P x → P y → P (if b then x else y)
one_of_two P true x y h k = h
one_of_two P false x y h k = k

pub three_ways : {X : Type 0} (P : X → Type 0) (a b : Bool) (x y z : X) → P x → P y → P z → P (if a then x else if b then y else z)
three_ways P true b x y z h k l = h
three_ways P false true x y z h k l = k
three_ways P false false x y z h k l = l

pub each_filtered : {X : Type 0} (P : X → Type 0) (f : X → Bool) (xs : List X) → Each P xs → Each P (filter f xs)
each_filtered P f [] h = tt
each_filtered P f (x ∷ xs) h = one_of_two (Each P) (f x) (x ∷ filter f xs) (filter f xs) (h.0, each_filtered P f xs h.1) (each_filtered P f xs h.1)
