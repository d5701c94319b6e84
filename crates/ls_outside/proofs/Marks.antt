-- The one machine value of a struct that has a marker alone.
use Rattle.std.proofs.Common.{[], ◌∷◌, refl}
use seplogic.Ra.Ura.{Ura}
use mir.Syntax.{Sym}
use mir.Val.{Val, vstruct, vcons, vnil}
use base.Logic.{ent, emp}
use types.Logic.{Logic, sem}
use denote.Builtin.{unit}
use denote.RattleType.{RattleType}
use denote.Shadow.{makes_shadow}
use denote.Struct.Struct.{Struct}
use Rattle.std.specs.contracts.marker.PhantomData as marker

abbrev pub token : Val
token = vstruct (vcons (vstruct vnil) vnil)

-- a struct of this name with a marker alone
abbrev pub Mark : Sym → RattleType
Mark name = Struct (record { name = name; args = []; types = []; fields = (marker.the_field unit).row ∷ [] })

-- to make one takes nothing
pub made : {M : Type 1} {𝓤 : Ura M} (name : Sym) (𝓛 : Logic 𝓤) → ent 𝓤 (emp 𝓤) (sem 𝓛 ((Mark name).own_val (tt, tt) (token ∷ [])))
made name 𝓛 = makes_shadow 𝓛 ((Mark name).own_val (tt, tt) (token ∷ [])) (λ vss. (tt, ((λ uss. (tt, tt)), tt))) ((vstruct vnil ∷ [], tt), (refl, ((tt, (refl, tt)), tt)))
