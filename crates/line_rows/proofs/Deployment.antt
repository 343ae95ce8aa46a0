-- The deployment is valid: each condition by computation.
use Rattle.std.proofs.Common.{refl, arith}
use Rattle.std.specs.Fmt.{digits}
use Rattle.config_walk.specs.Address.{IsAddress}
use Rattle.mrp_config.specs.Valid.{IsValid}
use Rattle.line_rows.specs.Row.{address, config}

-- the addresses
at_first : IsAddress (address 49 48)
unfolding digits
at_first = record { a = 127; b = 0; c = 0; d = 1; port = 7100; bytes = (omega arith, omega arith, omega arith, omega arith); above = omega arith; short = omega arith; spelled = refl }

at_second : IsAddress (address 49 49)
unfolding digits
at_second = record { a = 127; b = 0; c = 0; d = 1; port = 7101; bytes = (omega arith, omega arith, omega arith, omega arith); above = omega arith; short = omega arith; spelled = refl }

at_third : IsAddress (address 49 50)
unfolding digits
at_third = record { a = 127; b = 0; c = 0; d = 1; port = 7102; bytes = (omega arith, omega arith, omega arith, omega arith); above = omega arith; short = omega arith; spelled = refl }

at_client : IsAddress (address 50 48)
unfolding digits
at_client = record { a = 127; b = 0; c = 0; d = 1; port = 7200; bytes = (omega arith, omega arith, omega arith, omega arith); above = omega arith; short = omega arith; spelled = refl }

pub valid : IsValid config
valid = record {
  m = (omega arith, omega arith);
  lambda = omega arith;
  delta = (omega arith, omega arith);
  resend = (omega arith, omega arith);
  suspect = (omega arith, omega arith);
  attempt = (omega arith, omega arith);
  checkpoint = (omega arith, omega arith);
  trim = (omega arith, omega arith);
  window = (omega arith, omega arith);
  journal = (omega arith, omega arith);
  nodes = record {
    few = (omega arith, omega arith);
    ids = (omega arith, (omega arith, (omega arith, tt)));
    numbers = (omega arith, (omega arith, (omega arith, tt)));
    addresses = (at_first, (at_second, (at_third, tt)));
  };
  clients = record { few = omega arith; ids = (omega arith, tt); numbers = (omega arith, tt); addresses = (at_client, tt) };
  rings = record {
    few = (omega arith, omega arith);
    ids = (omega arith, tt);
    numbers = (omega arith, tt);
    acceptors = (
      record {
        few = (omega arith, omega arith);
        numbers = (omega arith, (omega arith, (omega arith, tt)));
        different = (refl, (refl, (refl, tt)));
        known = (refl, (refl, (refl, tt)));
      },
      tt,
    );
    rounds = ((omega arith, omega arith), tt);
  };
  partitions = record {
    few = (omega arith, omega arith);
    ids = (omega arith, tt);
    numbers = (omega arith, tt);
    each = (
      record {
        replicas = record {
          few = (omega arith, omega arith);
          numbers = (omega arith, (omega arith, (omega arith, tt)));
          different = (refl, (refl, (refl, tt)));
          known = (refl, (refl, (refl, tt)));
        };
        some = (omega arith, omega arith);
        increase = (omega arith, tt);
        numbers = (omega arith, tt);
        known = (refl, tt);
        home = refl;
        from = record { few = omega arith; bytes = λ i. omega arith };
        to = record { few = omega arith; bytes = λ i. omega arith };
        few_logs = omega arith;
        logs = (omega arith, tt);
        low_logs = (omega arith, tt);
      },
      tt,
    );
    quorums = (record { trims = (omega arith, omega arith); recovers = (omega arith, omega arith); meet = omega arith }, tt);
    replicas = (tt, tt);
    logs = (tt, tt);
    ranges = (refl, refl);
  };
}
