-- Why the bytes of a reply were not read.
use Rattle.command_codec.specs.declared.fault.CodecFault.{CodecFault}
use Rattle.command_codec.specs.declared.fault.CodecFault.TheVariants as codec
use Rattle.client_core.specs.declared.asking.ReplyFault.{ReplyFault}
use Rattle.client_core.specs.declared.asking.ReplyFault.TheVariants.{Codec, Memory}

-- want of memory stays that
abbrev pub reply_fault : CodecFault → ReplyFault
reply_fault codec.Memory = Memory
reply_fault other = Codec other
