use Rattle.std.proofs.Common.{refl}
use Rattle.canon_types.proofs.Plain.{borrow_layout, own_layout, scalar_layout, text_layout}
use Rattle.canon_types.proofs.table.plain_abis.Goals as goal

pub returns : goal.returns
returns c = record {
  one = scalar_layout _ 1 (record { size32 = refl; align32 = refl; size64 = refl; align64 = refl; words = refl });
  two = scalar_layout _ 2 (record { size32 = refl; align32 = refl; size64 = refl; align64 = refl; words = refl });
  four = scalar_layout _ 4 (record { size32 = refl; align32 = refl; size64 = refl; align64 = refl; words = refl });
  eight = scalar_layout _ 8 (record { size32 = refl; align32 = refl; size64 = refl; align64 = refl; words = refl });
  owned = own_layout _ (record { size32 = refl; align32 = refl; size64 = refl; align64 = refl; words = refl });
  borrowed = borrow_layout _ (record { size32 = refl; align32 = refl; size64 = refl; align64 = refl; words = refl });
  text = text_layout _ (record { size32 = refl; align32 = refl; size64 = refl; align64 = refl; words = refl });
}
