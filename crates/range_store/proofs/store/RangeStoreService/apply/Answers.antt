use Rattle.std.proofs.Common.{List, refl, sym, ap, ◌∙◌}
use Rattle.command_codec.specs.declared.reply.TableEntry.{TableEntry}
use Rattle.plain_model.specs.Replicas.{Effect}
use Rattle.services.specs.Parts.{Table}
use Rattle.range_store.proofs.CallLaws.{get_made, scan_made, update_made, insert_made, delete_made, swap_made, state_made, same_made, reply_made, reply_is, spelled_made, of_view}
use Rattle.range_store.proofs.store.RangeStoreService.apply.Goals as goal

pub returns-in-Get-clause-state : goal.returns-in-Get-clause-state
returns-in-Get-clause-state c = same_made c.get.result c.args.self.now _ _ (get_made c.args.command.now c.in-Get.key c.bytes.result.now c.args.self.now c.in-Get.is c.bytes.ensures) refl

pub returns-in-Get-clause-reply : goal.returns-in-Get-clause-reply
returns-in-Get-clause-reply c = reply_made c.get.result _ _ (get_made c.args.command.now c.in-Get.key c.bytes.result.now c.args.self.now c.in-Get.is c.bytes.ensures) c.get.ensures

pub returns-in-Get-clause-spelled : goal.returns-in-Get-clause-spelled
returns-in-Get-clause-spelled c = spelled_made c.get.result c.args.command.now c.args.self.now _ c.requires.valid (of_view _ _ c.self.view_is c.self.invariant.0) (get_made c.args.command.now c.in-Get.key c.bytes.result.now c.args.self.now c.in-Get.is c.bytes.ensures) c.get.ensures

pub returns-in-Scan-clause-state : goal.returns-in-Scan-clause-state
returns-in-Scan-clause-state c = same_made c.page.result c.args.self.now _ _ (scan_made c.args.command.now c.in-Scan.from c.in-Scan.to c.bytes-in-Scan.result.now c.bytes-in-Scan-2.result.now c.args.self.now c.in-Scan.is c.bytes-in-Scan.ensures c.bytes-in-Scan-2.ensures) refl

pub returns-in-Scan-clause-reply : goal.returns-in-Scan-clause-reply
returns-in-Scan-clause-reply c = reply_made c.page.result _ _ (scan_made c.args.command.now c.in-Scan.from c.in-Scan.to c.bytes-in-Scan.result.now c.bytes-in-Scan-2.result.now c.args.self.now c.in-Scan.is c.bytes-in-Scan.ensures c.bytes-in-Scan-2.ensures) c.page.ensures

pub returns-in-Scan-clause-spelled : goal.returns-in-Scan-clause-spelled
returns-in-Scan-clause-spelled c = spelled_made c.page.result c.args.command.now c.args.self.now _ c.requires.valid (of_view _ _ c.self.view_is c.self.invariant.0) (scan_made c.args.command.now c.in-Scan.from c.in-Scan.to c.bytes-in-Scan.result.now c.bytes-in-Scan-2.result.now c.args.self.now c.in-Scan.is c.bytes-in-Scan.ensures c.bytes-in-Scan-2.ensures) c.page.ensures

pub returns-in-Update-clause-state : goal.returns-in-Update-clause-state
returns-in-Update-clause-state c = state_made c.update.result _ _ _ (update_made c.args.command.now c.in-Update.key c.in-Update.value c.bytes-in-Update.result.now c.bytes-in-Update-2.result.now c.args.self.now c.in-Update.is c.bytes-in-Update.ensures c.bytes-in-Update-2.ensures) c.update.ensures.state

pub returns-in-Update-clause-reply : goal.returns-in-Update-clause-reply
returns-in-Update-clause-reply c = reply_made c.update.result _ _ (update_made c.args.command.now c.in-Update.key c.in-Update.value c.bytes-in-Update.result.now c.bytes-in-Update-2.result.now c.args.self.now c.in-Update.is c.bytes-in-Update.ensures c.bytes-in-Update-2.ensures) c.update.ensures.reply

pub returns-in-Update-clause-spelled : goal.returns-in-Update-clause-spelled
returns-in-Update-clause-spelled c = spelled_made c.update.result c.args.command.now c.args.self.now _ c.requires.valid (of_view _ _ c.self.view_is c.self.invariant.0) (update_made c.args.command.now c.in-Update.key c.in-Update.value c.bytes-in-Update.result.now c.bytes-in-Update-2.result.now c.args.self.now c.in-Update.is c.bytes-in-Update.ensures c.bytes-in-Update-2.ensures) c.update.ensures.reply

pub returns-in-Insert-clause-state : goal.returns-in-Insert-clause-state
returns-in-Insert-clause-state c = state_made c.insert.result _ _ _ (insert_made c.args.command.now c.in-Insert.key c.in-Insert.value c.bytes-in-Insert.result.now c.bytes-in-Insert-2.result.now c.args.self.now c.in-Insert.is c.bytes-in-Insert.ensures c.bytes-in-Insert-2.ensures) c.insert.ensures.state

pub returns-in-Insert-clause-reply : goal.returns-in-Insert-clause-reply
returns-in-Insert-clause-reply c = reply_made c.insert.result _ _ (insert_made c.args.command.now c.in-Insert.key c.in-Insert.value c.bytes-in-Insert.result.now c.bytes-in-Insert-2.result.now c.args.self.now c.in-Insert.is c.bytes-in-Insert.ensures c.bytes-in-Insert-2.ensures) c.insert.ensures.reply

pub returns-in-Insert-clause-spelled : goal.returns-in-Insert-clause-spelled
returns-in-Insert-clause-spelled c = spelled_made c.insert.result c.args.command.now c.args.self.now _ c.requires.valid (of_view _ _ c.self.view_is c.self.invariant.0) (insert_made c.args.command.now c.in-Insert.key c.in-Insert.value c.bytes-in-Insert.result.now c.bytes-in-Insert-2.result.now c.args.self.now c.in-Insert.is c.bytes-in-Insert.ensures c.bytes-in-Insert-2.ensures) c.insert.ensures.reply

pub returns-in-Swap-clause-state : goal.returns-in-Swap-clause-state
returns-in-Swap-clause-state c = state_made c.swap.result _ _ _ (swap_made c.args.command.now c.in-Swap.key c.in-Swap.old c.in-Swap.new c.bytes-in-Swap.result.now c.bytes-in-Swap-2.result.now c.bytes-in-Swap-3.result.now c.args.self.now c.in-Swap.is c.bytes-in-Swap.ensures c.bytes-in-Swap-2.ensures c.bytes-in-Swap-3.ensures) c.swap.ensures.state

pub returns-in-Swap-clause-reply : goal.returns-in-Swap-clause-reply
returns-in-Swap-clause-reply c = reply_made c.swap.result _ _ (swap_made c.args.command.now c.in-Swap.key c.in-Swap.old c.in-Swap.new c.bytes-in-Swap.result.now c.bytes-in-Swap-2.result.now c.bytes-in-Swap-3.result.now c.args.self.now c.in-Swap.is c.bytes-in-Swap.ensures c.bytes-in-Swap-2.ensures c.bytes-in-Swap-3.ensures) c.swap.ensures.reply

pub returns-in-Swap-clause-spelled : goal.returns-in-Swap-clause-spelled
returns-in-Swap-clause-spelled c = spelled_made c.swap.result c.args.command.now c.args.self.now _ c.requires.valid (of_view _ _ c.self.view_is c.self.invariant.0) (swap_made c.args.command.now c.in-Swap.key c.in-Swap.old c.in-Swap.new c.bytes-in-Swap.result.now c.bytes-in-Swap-2.result.now c.bytes-in-Swap-3.result.now c.args.self.now c.in-Swap.is c.bytes-in-Swap.ensures c.bytes-in-Swap-2.ensures c.bytes-in-Swap-3.ensures) c.swap.ensures.reply

pub returns-in-Delete-clause-state : goal.returns-in-Delete-clause-state
returns-in-Delete-clause-state c = ap (λ (l : List TableEntry). Table l) (c.delete.ensures.state ∙ ap (λ (f : Effect). f.table) (sym (delete_made c.args.command.now c.in-Delete.key c.bytes-in-Delete.result.now c.args.self.now c.in-Delete.is c.bytes-in-Delete.ensures)))

pub returns-in-Delete-clause-reply : goal.returns-in-Delete-clause-reply
returns-in-Delete-clause-reply c = c.delete.ensures.reply ∙ ap (λ (f : Effect). f.reply) (sym (delete_made c.args.command.now c.in-Delete.key c.bytes-in-Delete.result.now c.args.self.now c.in-Delete.is c.bytes-in-Delete.ensures))

pub returns-in-Delete-clause-spelled : goal.returns-in-Delete-clause-spelled
returns-in-Delete-clause-spelled c = reply_is c.args.command.now c.args.self.now _ c.requires.valid (of_view _ _ c.self.view_is c.self.invariant.0) (c.delete.ensures.reply ∙ ap (λ (f : Effect). f.reply) (sym (delete_made c.args.command.now c.in-Delete.key c.bytes-in-Delete.result.now c.args.self.now c.in-Delete.is c.bytes-in-Delete.ensures)))
