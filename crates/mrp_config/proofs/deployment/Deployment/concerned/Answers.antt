use Rattle.mrp_config.proofs.deployment.Deployment.concerned.Goals as goal

pub mask_concerned-requires : goal.mask_concerned-requires
mask_concerned-requires c = rw c.deref.ensures.value (record { rise = c.self.invariant.partitions.ids; low = c.self.invariant.partitions.numbers })
