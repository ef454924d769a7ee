use Rattle.std.proofs.Common.{ap, ◌∙◌, sym, subst, length}
use Rattle.mem_account.specs.Counters.{Counters}
use Rattle.lock_row.specs.Rows.{IsDistinct}
use Rattle.zr_core.specs.Rests.{no_device}
use Rattle.zr_core.proofs.Fresh.{all_names, account_new, row_cells, row_long, row_account}
use Rattle.zr_core.proofs.Names.{names_distinct, names_long}
use Rattle.zr_core.proofs.row.new_row.Goals as goal

pub new-requires-clause-distinct : goal.new-requires-clause-distinct
new-requires-clause-distinct o c = subst IsDistinct
    (sym (all_names _ _ _ _ c.args.pages c.in_ok-push_pools.ensures.names
    c.in_ok-push.ensures.items c.in_ok-push-3.ensures.items c.in_ok-push-5.ensures.items))
    (names_distinct c.args.pages)

pub new-requires-clause-size : goal.new-requires-clause-size
new-requires-clause-size o c =
    let names = all_names _ _ _ _ c.args.pages c.in_ok-push_pools.ensures.names
    c.in_ok-push.ensures.items c.in_ok-push-3.ensures.items c.in_ok-push-5.ensures.items in
    row_long c.args.pages c.args.limit _ _ _ _ c.set_limit.new.self
    (c.set_limit.ensures.limit
    ∙ ap (λ (a : Counters). record a { limit = c.args.limit }) c.new-account.ensures.zeros)
    (c.in_ok-push_pools.ensures.cells c.args.limit) c.in_ok-push-2.ensures.items
    c.in_ok-push-4.ensures.items c.in_ok-push-6.ensures.items no_device
    ∙ sym (names_long c.args.pages) ∙ sym (ap length names)

pub returns-clause-names : goal.returns-clause-names
returns-clause-names o c = c.new.ensures.names
    ∙ all_names _ _ _ _ c.args.pages c.in_ok-push_pools.ensures.names
    c.in_ok-push.ensures.items c.in_ok-push-3.ensures.items c.in_ok-push-5.ensures.items

pub returns-clause-cells : goal.returns-clause-cells
returns-clause-cells o c =
    let is = c.set_limit.ensures.limit
    ∙ ap (λ (a : Counters). record a { limit = c.args.limit }) c.new-account.ensures.zeros in (
      _,
      account_new c.args.pages c.args.limit _ _ _ _ c.set_limit.new.self is
          (c.in_ok-push_pools.ensures.cells c.args.limit) c.in_ok-push-2.ensures.items
          c.in_ok-push-4.ensures.items (c.new.ensures.cells ∙ c.in_ok-push-6.ensures.items),
      row_cells c.args.pages c.args.limit _ _ _ _ c.set_limit.new.self is
          (c.in_ok-push_pools.ensures.cells c.args.limit) c.in_ok-push-2.ensures.items
          c.in_ok-push-4.ensures.items (c.new.ensures.cells ∙ c.in_ok-push-6.ensures.items),
    )

pub returns-clause-account : goal.returns-clause-account
returns-clause-account o c =
    row_account c.args.pages c.args.limit _ _ _ _ c.set_limit.new.self
    (c.set_limit.ensures.limit
    ∙ ap (λ (a : Counters). record a { limit = c.args.limit }) c.new-account.ensures.zeros)
    (c.in_ok-push_pools.ensures.cells c.args.limit) c.in_ok-push-2.ensures.items
    c.in_ok-push-4.ensures.items (c.new.ensures.cells ∙ c.in_ok-push-6.ensures.items) no_device
