-- The laws of surfaces turned round.
pub mod Told
pub mod Made
pub mod Again
pub mod Turned
pub mod Alone
pub mod Numbered
pub mod Rebuilt
pub mod Gaps
pub mod Gapless
pub mod Example
pub mod Rewritten
pub mod Reread
pub mod ReadGapless
