pub mod OverOpener
