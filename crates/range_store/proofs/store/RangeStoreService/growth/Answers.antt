use Rattle.range_store.proofs.CallLaws.{update_grows, insert_grows, swap_grows, rest_grows, of_view}
use Rattle.range_store.proofs.store.RangeStoreService.growth.Goals as goal

pub returns-in-Update : goal.returns-in-Update
returns-in-Update c =
    update_grows c.args.command.now c.in-Update.key c.in-Update.value c.bytes.result.now c.bytes-in-Update.result.now c.args.self.now _ (of_view _ _ c.self.view_is c.self.invariant.0) c.in-Update.is c.bytes.ensures c.bytes-in-Update.ensures
    c.update_growth.ensures

pub returns-in-Insert : goal.returns-in-Insert
returns-in-Insert c =
    insert_grows c.args.command.now c.in-Insert.key c.in-Insert.value c.bytes-in-Insert.result.now c.bytes-in-Insert-2.result.now c.args.self.now _ (of_view _ _ c.self.view_is c.self.invariant.0) c.in-Insert.is
    c.bytes-in-Insert.ensures c.bytes-in-Insert-2.ensures c.insert_growth.ensures

pub returns-in-Swap : goal.returns-in-Swap
returns-in-Swap c =
    swap_grows c.args.command.now c.in-Swap.key c.in-Swap.old c.in-Swap.new c.bytes-in-Swap.result.now c.bytes-in-Swap-2.result.now c.bytes-in-Swap-3.result.now c.args.self.now _ (of_view _ _ c.self.view_is c.self.invariant.0)
    c.in-Swap.is c.bytes-in-Swap.ensures c.bytes-in-Swap-2.ensures c.bytes-in-Swap-3.ensures c.swap_growth.ensures

pub returns-in_default : goal.returns-in_default
returns-in_default c = rest_grows c.args.command.now c.args.self.now (of_view _ _ c.self.view_is c.self.invariant.0) c.in_default.not-Update c.in_default.not-Insert c.in_default.not-Swap
