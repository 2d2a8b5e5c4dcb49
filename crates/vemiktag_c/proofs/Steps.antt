-- The names that the walks of this crate cite, and what they say of a box that is taken apart.
use mathlib.Core.Bool.{Bool, true, false, ◌&&◌}
use lib.Dec.{T}
pub use Rattle.std.proofs.Common.{◌≡◌, ℕ, List, [], ◌∷◌, ◌++◌, refl, sym, ap, ◌∙◌, subst, Option, Some, None, IsSome, lit<, w64}
pub use Rattle.std.proofs.raw_atomic.Walks.{proved, proved_at}
pub use base.Logic.{id⊢, emp}
pub use base.Fml.{Fml, ftrue, fsep, flft}
pub use mir.Val.{Val, Vals, vint, vstruct, vcons, vnil}
pub use contract.Running.{tables}
pub use contract.Monad.{fact}
pub use types.Kit.{‵, raw, ◌⊛◌, some, later, ◌$◌, ◌∵◌, !, qed, by, done, move, drop, use1, split, split3, join, fsplit, fjoin, fpack, fpick, feq_i, feq_l, pick, await, rewrite, suffices, group}
pub use types.Part.{whole, sub, agg}
pub use types.Run.{stop, fld, no_more, and_then, of_opd, lit, first, blocks, exec, returns, enter}
pub use types.ByLocal.{alloc_all, pass_all, free_all, look_at, get, get_in, sets, lands_as, lands_last, env}
pub use denote.Exit.{yes, no}
pub use denote.RattleType.{RattleType, Valss}
pub use denote.RawPtr.{Ptr, RawPtr, null_ptr, ptr_val, rawptr_Lawful}
pub use denote.Signature.{plain}
pub use denote.Steps.{nothing, heard, only}
pub use denote.Triple.Call.{calls_at, calls_at_last}
pub use denote.Triple.Spec.{triple_of}
pub use denote.Triple.Walked.{Stays, walk_of, says, stay_dropped, Goes-dropped, ends_at}

pub some_of : {A : Type 0} → (o : Option A) → IsSome o → (x : A) × (o ≡ Some x)
some_of (Some x) present = (x, refl)
some_of None present = absurd (cc)

pub both : (x y : Bool) → T x → T y → T (x && y)
both true y p q = q
both false y p q = absurd p
