use Rattle.std.proofs.Common.{◌≡◌, ℕ, ◌+◌, ◌-◌, ◌≤◌, List, min, length, take, drop, sym, ap, ◌∙◌, arith, vec_len}
use Rattle.zr_base.specs.Memory.{Supply}
use Rattle.zr_base.proofs.Supplies.{read_consumes, read_ends}
use Rattle.zr_base.proofs.source.MemSourceSource.read.Goals as goal

pub returns-clause-bytes : goal.returns-clause-bytes
returns-clause-bytes c =
    let bytes : List ℕ = c.self.inside.bytes.items in
    let at : ℕ = c.self.inside.at in
    let n : ℕ = c.min-n.result in
    let size : length bytes ≡ vec_len c.self.inside.bytes =
    ap length (sym c.deref.ensures.value) ∙ c.deref.ensures.len in
    let inside : at ≤ length bytes = omega (arith, size, c.self.invariant) in
    let fits : n ≡ min (length c.args.into.now) (length bytes - at) =
    omega (arith, size, c.len.ensures, c.min-n.ensures) in
    let part : c.copy_from_slice.new.self ≡ take (at + n - at) (drop at bytes) =
    c.copy_from_slice.ensures.after
    ∙ ap (λ xs. take (at + n - at) (drop at xs)) c.deref.ensures.value in (
      ap (λ (s : Supply). s.left) (sym c.self.view_is)
          ∙ read_consumes bytes c.args.into.now _ at n inside fits part,
      read_ends bytes c.args.into.now _ at n inside fits part,
    )
