mod SessionLaws
mod ApplyLaws
