-- The events of a schedule of the whole system, by their short names.
pub use Rattle.schedule.specs.declared.event.ScheduleEvent.{ScheduleEvent}
pub use Rattle.schedule.specs.declared.event.ScheduleEvent.TheVariants.{Ask, Flow, Lose, Deliver, List, TickAll, TickNode, TickClient, Lead, Crash, Restart, Fuse, Fail, FailRead, Show}
