-- Why a checkpoint isn't saved.
use Rattle.disk_model.specs.declared.area.Refused.{Refused}
use Rattle.disk_model.specs.declared.area.Refused.TheVariants.{Failed, Memory as Wanting}
use Rattle.checkpoint_disk.specs.declared.fault.SaveFault.{SaveFault}
use Rattle.checkpoint_disk.specs.declared.fault.SaveFault.TheVariants.{Disk, Memory}

abbrev pub refused_as : Refused → SaveFault
refused_as Failed = Disk
refused_as Wanting = Memory
