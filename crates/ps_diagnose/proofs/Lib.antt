mod Added
mod Asking
mod Beginning
