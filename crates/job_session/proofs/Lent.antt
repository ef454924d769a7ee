-- The references by which a job's device is reached: no item changes them.
use Rattle.std.proofs.Common.{◌≡◌, ℕ, Bool, true, false, zero, suc, List, [], ◌∷◌, ap, ◌∙◌}
use Rattle.std.specs.Prelude.{nat_lt}
use Rattle.backing_dev.specs.Dev.{DeviceState}
use Rattle.plain_disk.specs.Output.{OutLine}
use Rattle.plain_disk.specs.Rests.{Rest}
use Rattle.plain_disk.specs.Legal.{GivesDisk, GivesBacking, ItemIsLegal}
use Rattle.slot_entry.specs.Forms.{page_weight}
use Rattle.job_text.specs.declared.job.Attr.{Attr}
use Rattle.job_text.specs.declared.job.Attr.TheVariants.{DiskPages, LimitPages, Backing, WritebackLimit, WritebackLimitEnable, Clock, LowerMax}
use Rattle.job_text.specs.declared.job.Item.{Item}
use Rattle.job_text.specs.declared.job.Item.TheVariants as items
use Rattle.job_session.specs.Legal.{Legal, plain_item}

-- ---- items

-- the references by which the device is reached
abbrev refs : DeviceState → List ℕ
refs d = d.references

size_refs : (size : ℕ) (r : Rest) (n : ℕ) (lines : List OutLine) (m : Rest)
    → GivesDisk size r n lines m → refs m.device ≡ refs r.device
size_refs zero r n lines m is = ap refs is.1.device
size_refs (suc size) r n lines m is = ap (λ (x : Rest). refs x.device) is.same

backing_refs : (size : ℕ) (past : Bool) (r : Rest) (n : ℕ) (lines : List OutLine) (m : Rest)
    → GivesBacking size past r n lines m → refs m.device ≡ refs r.device
backing_refs zero false r n lines m is = ap (λ (x : Rest). refs x.device) is.1
backing_refs zero true r n lines m is = ap (λ (x : Rest). refs x.device) is.same
backing_refs (suc size) past r n lines m is = ap (λ (x : Rest). refs x.device) is.same

attr_refs : (r : Rest) (attr : Attr) (lines : List OutLine) (m : Rest)
    → ItemIsLegal page_weight r (plain_item (items.Attr attr)) lines m
    → refs m.device ≡ refs r.device
attr_refs r (DiskPages n) lines m is = size_refs r.size r n lines m is
attr_refs r (LimitPages n) lines m is = ap (λ (x : Rest). refs x.device) is.1
attr_refs r (Backing n) lines m is =
    backing_refs r.size (nat_lt r.device.blocks n) r n lines m is
attr_refs r (WritebackLimit n) lines m is = ap (λ (x : Rest). refs x.device) is.1
attr_refs r (WritebackLimitEnable on) lines m is = ap (λ (x : Rest). refs x.device) is.1
attr_refs r (Clock n) lines m is = ap (λ (x : Rest). refs x.device) is.1
attr_refs r LowerMax lines m is = ap (λ (x : Rest). refs x.device) is.1

item_refs : (r : Rest) (item : Item) (lines : List OutLine) (m : Rest)
    → ItemIsLegal page_weight r (plain_item item) lines m → refs m.device ≡ refs r.device
item_refs r (items.Attr attr) lines m is = attr_refs r attr lines m is
item_refs r (items.Report report) lines m is = ap (λ (x : Rest). refs x.device) is.1
item_refs r (items.Phase text) lines m is = is.leaves.device.same

pub job_refs : (job : List Item) (r : Rest) (lines : List OutLine) (last : Rest)
    → Legal r job lines last → refs last.device ≡ refs r.device
job_refs [] r lines last is = ap (λ (x : Rest). refs x.device) is.1
job_refs (item ∷ job) r lines last is =
    job_refs job is.0 is.2 last is.4 ∙ item_refs r item is.1 is.0 is.3
