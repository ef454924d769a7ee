use Rattle.std.proofs.Common.{refl, ap, ◌∙◌, arith}
use Rattle.backing_dev.specs.Dev.{DeviceState}
use Rattle.job_text.specs.Jobs.{nothing_used}
use Rattle.job_session.specs.Stepped.{without_pages, disk_of}
use Rattle.job_session.proofs.Legal.{first_rest}
use Rattle.job_session.proofs.Times.{first_some}
use Rattle.job_session.proofs.Written.{bare_disk, first_is, first_stands}
use Rattle.job_session.proofs.session.Session.new.Goals as goal

pub returns-clause-new : goal.returns-clause-new
returns-clause-new g c =
    let new = c.new.ensures in
    record {
      whole = refl;
      none = refl;
      quiet = refl;
      disk = bare_disk (disk_of 0 c.new.result) new.pages new.limit new.backed refl new.cells new.blocks
          ∙ ap without_pages new.device;
      first = first_rest _;
      is_first = first_is _;
      stands = first_stands _ (omega arith);
    }

pub returns-clause-between : goal.returns-clause-between
returns-clause-between g c =
    let new = c.new.ensures in (
      c.new.result,
      refl,
      record {
        within = omega arith;
        rest = new.rest;
        may = record {
          used = nothing_used;
          sized = λ none. refl;
          timed = refl;
          may = c.requires.lawful;
        };
        stands = first_some (disk_of 0 c.new.result) new.pages new.limit new.backed refl new.cells new.blocks
            (ap (λ (d : DeviceState). d.writes) new.device);
      },
    )
