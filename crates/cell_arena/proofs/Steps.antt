-- The names that the walks cite.
pub use Rattle.std.proofs.Common.{◌≡◌, ℕ, ◌+◌, ◌*◌, ◌<◌, ◌≤◌, ◌^◌, List, [], ◌∷◌, ◌++◌, length, take, drop, refl, sym, ap, subst, ◌∙◌, arith}
pub use Rattle.std.specs.Borrow.{u8}
pub use seplogic.Ra.Ura.{Ura}
pub use mir.Val.{Val, vint, vptr, vstruct, vcons, vnil}
pub use mir.Syntax.{w64, named}
pub use base.Fraction.{full_share}
pub use base.Logic.{SProp, ent, emp, never, id⊢}
pub use base.Fml.{Fml, ftrue, fsep, flft}
pub use contract.Monad.{fact, fact_i}
pub use contract.Running.{tables}
pub use prog.Wp.{WpFn}
pub use types.Logic.{Logic, sem}
pub use types.SemTy.{cells}
pub use types.Kit.{Item, Goal, Seq, Step, step, ‵, raw, ◌⊛◌, at_ret, ◌$◌, ◌∵◌, !, qed, done, by, move, keep, drop as skip, use0, use1, use2, split, join, fsplit, fjoin, rewrite}
pub use types.Part.{whole, sub, agg}
pub use types.Run.{of_opd, bin, and_then, no_more, fld, stop, first, blocks, exec, returns, enter}
pub use types.ByLocal.{alloc_all, pass_all, free_all, look_at, get, get_in, sets, sets_last, env}
pub use denote.Builtin.{usize}
pub use denote.Exit.{yes}
pub use denote.Memory.{mem}
pub use denote.Plain.{uint_vals, uint_Tells}
pub use denote.RattleType.{owns}
pub use denote.RawPtr.{Ptr, block_ptr, in_a_block, ◌+ₚ◌}
pub use denote.Signature.{plain, types_at}
pub use denote.Steps.{nothing, heard}
pub use denote.Triple.Entry.{alive}
pub use denote.Triple.Walked.{Stays, stay_dropped, walk_of, Goes-dropped}
pub use Rattle.std_alloc.proofs.RcSteps.{word, word-Good, Ptr-Good}
pub use Rattle.std_alloc.proofs.VecSteps.Shapes.{after}
pub use Rattle.std.proofs.raw_atomic.Walks.{proved, leaves}
